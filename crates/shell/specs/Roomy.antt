-- A call that takes nothing and writes nothing was not handed a full buffer, so that a read after it has room.
use Rattle.std.specs.Prelude.{◌≡◌, refl, Bool, true, false, not, ◌&&◌, List, ℕ, ◌+◌, ◌-◌, ◌≤◌, ◌<◌, eqb, length, drop}
use Rattle.std.proofs.Common.{arith, eqb-true, length-drop, length-take-le}
use Rattle.std.proofs.lemmas.Bool.{false≢true, not-true}
use Rattle.windows.specs.Advance.{widest, farthest}
use Rattle.shell.specs.declared.telling.Telling.{Ghosts}
use Rattle.shell.specs.declared.telling.Turn.{Turn}
use Rattle.shell.specs.declared.Shell.{Shell}
use Rattle.shell.specs.Shell.{Good, window, Calls, after}

both : (a b : Bool) → (a && b) ≡ true → (a ≡ true) × (b ≡ true)
both true b e = (refl, e)
both false b e = absurd (false≢true e)

-- what is kept after a call that is handed the window of f
pub good_after : {T : Type 0} (g : Ghosts T) {n : ℕ} (b : List ℕ) (f : Shell T) {out out' : List ℕ} → Good g n f → f.going ≡ true → length b ≡ n → widest ≤ n → g.room ≤ length out → (t : Turn T) → Calls g f.last (window b f) out f.progress out' t → Good g n (after g f t)
good_after g {n} b f x on long wide room t went = record {
  ordered = omega (arith, x.ordered, went.within, size);
  within = x.within;
  roomy = left;
  given = went.given;
  undone = λ on. not-true (g.done t.progress) on;
}
  where
    w : List ℕ
    w = window b f

    size : length w ≡ f.end - f.start
    size = length-take-le (f.end - f.start) (drop f.start b) (omega (arith, length-drop f.start b, long, x.ordered, x.within))

    left : ((eqb t.taken 0 && eqb t.written 0) && not f.last) ≡ true → g.place t.progress ≤ farthest → f.end - (f.start + t.taken) < n
    left asked near =
        let s = both (eqb t.taken 0 && eqb t.written 0) (not f.last) asked in
        let q = both (eqb t.taken 0) (eqb t.written 0) s.0 in
        let h = eqb-true t.taken 0 q.0 in
        let k = eqb-true t.written 0 q.1 in
        let l = went.narrow (omega arith) room (x.undone on) near (not-true f.last s.1) in
        omega (arith, l, size, wide)
