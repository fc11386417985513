-- A call on its way: what it has taken and written so far, and that what is still to be written follows it.
use Rattle.std.specs.Prelude.{◌≡◌, Bool, true, List, [], ◌++◌, ℕ, drop}
use Rattle.report.specs.Tallies.{Tally, rest_of}

-- from the byte `from` of the window w up to `to` the text brings the report from p to q, whatever the input has behind the window;
-- behind the last one it has nothing
abbrev pub Brings : Bool → List ℕ → ℕ → Tally → List ℕ → ℕ → Tally → Type 0
Brings last w from p text to q = (behind : List ℕ) → (last ≡ true → behind ≡ []) → rest_of p (drop from w ++ behind) ≡ text ++ rest_of q (drop to w ++ behind)
