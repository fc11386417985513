-- Where the program's turns bring the listing: it is fed all that was read, in order and nothing twice.
use Rattle.std.specs.Prelude.{◌≡◌, true, List, [], ◌++◌, ℕ}
use Rattle.std.proofs.Common.{sym, ap, ◌∙◌, refl, append-nil, subst}
use Rattle.rules.specs.Listing.{heading, listing}
use Rattle.windows.specs.Advance.{Progress, begun}
use Rattle.windows.specs.Feeding.{Bytes, Feed, written, comes_to, Honest, any_windows}
use Rattle.shell.specs.declared.Shell.{Shell}
use Rattle.shell.specs.Turns.{Turns}
use Rattle.shell.specs.Reached as shell
use Rattle.bollardine.specs.declared.Listing.{Listing}
use Rattle.bollardine.specs.Calls.{Brings, fed}
use Rattle.bollardine.specs.contracts.ListingTelling.TheImpl.{ghosts}

-- where the listing has come to
pub record Reached (s : Shell Listing) : Type 0 where
  -- what was read, from the first byte on
  pub input : List ℕ
  pub bytes : Bytes input
  -- the calls that were made
  pub feeds : List Feed
  -- none was told that its window is the last but where that had all that was left of the input
  pub honest : Honest begun input feeds
  -- the listing is where those calls bring it
  pub progress : s.progress.0 ≡ comes_to begun input feeds

-- the shell brings it there
pub reached : {s : Shell Listing} → shell.Reached ghosts s → Reached s
reached {s} r =
    let x = fed (subst (λ (v : List ℕ). Turns Brings (record { 0 = begun }) v r.text s.progress (r.left ++ [])) (append-nil r.input) (r.turns [] (λ _. refl))) in
    record { input = r.input; bytes = r.bytes; feeds = x.feeds; honest = x.honest; progress = x.comes }

-- what the calls wrote is the listing of what was read, where it is done
pub reached_listing : {s : Shell Listing} (r : Reached s) → s.progress.0.done ≡ true → listing r.input ≡ heading ++ written begun r.input r.feeds
reached_listing r done = any_windows r.input r.feeds r.bytes r.honest (sym (ap (λ (p : Progress). p.done) r.progress) ∙ done)
