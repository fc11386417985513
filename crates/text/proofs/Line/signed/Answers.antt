use Rattle.std.proofs.Common.{◌≡◌, rules, refl, sym, ap, ◌∙◌, true, false, not, ℕ, ◌∷◌, ℤ, pos, negsuc, nat_abs, length, arith, SFits}
use Rattle.std.specs.Int.{w64}
use lib.Signed.{lt_z}
use mir.Val.{to_z, of_z}
use mir.ValLaws.{to_z-of_z}
use borrow.Author.Tests.{le-ltb}
use Rattle.std.specs.Int.Signed.{non_neg}
use Rattle.rules.specs.Listing.{decimal, signed}
use Rattle.text.specs.Lines.{minus, plain}
use Rattle.text.proofs.Chain.{and_then, same_text}
use Rattle.text.proofs.Line.signed.Goals as goal
use Rattle.text.proofs.Line.signed.Goals.{then-x-lt0, else-x-lt0}

-- z, read back from its bits
abbrev back : ℤ → ℤ
back z = to_z w64 (of_z w64 z)

sign : (z : ℤ) → lt_z z (pos 0) ≡ not (non_neg z)
sign (pos n) = le-ltb n 0 (omega arith)
sign (negsuc n) = refl

below : (z : ℤ) {n : ℕ} → SFits w64 z → lt_z (back z) (pos 0) ≡ true → n ≡ nat_abs (back z) → signed z ≡ 45 ∷ decimal n
below z f h e = let b = to_z-of_z w64 z f in minus z (sym (sign z) ∙ rw b at h) ∙ ap (λ (n : ℕ). 45 ∷ decimal n) (sym (rw b at e))

above : (z : ℤ) {n : ℕ} → SFits w64 z → lt_z (back z) (pos 0) ≡ false → n ≡ nat_abs (back z) → signed z ≡ decimal n
above z f h e = let b = to_z-of_z w64 z f in plain z (sym (sign z) ∙ rw b at h) ∙ ap decimal (sym (rw b at e))

pub byte-requires : goal.byte-requires
byte-requires c = omega (arith, ap length (below c.args.x.0 (search rules) c.if-x-lt0.true refl))

pub decimal-requires : goal.decimal-requires
decimal-requires c =
    elim c.if-x-lt0.branch [
      | then-x-lt0 w ↦ rw w.self-is (omega (arith, ap length (below c.args.x.0 (search rules) w.if-x-lt0.true c.unsigned_abs.ensures.value)))
      | else-x-lt0 w ↦ rw w.self-is (omega (arith, ap length (above c.args.x.0 (search rules) w.if-x-lt0.false c.unsigned_abs.ensures.value)))
    ]

pub returns : goal.returns
returns c =
    elim c.if-x-lt0.branch [
      | then-x-lt0 w ↦
          same_text (sym (below c.args.x.0 (search rules) w.if-x-lt0.true c.unsigned_abs.ensures.value)) (and_then w.byte.ensures (rw w.self-is at c.decimal.ensures))
      | else-x-lt0 w ↦
          same_text (sym (above c.args.x.0 (search rules) w.if-x-lt0.false c.unsigned_abs.ensures.value)) (rw w.self-is at c.decimal.ensures)
    ]
