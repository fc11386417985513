use Rattle.std.proofs.Common.{◌≡◌, List, ℕ, ◌<◌, length, sym, arith}
use Rattle.rules.specs.Records.{Cut, frame_of, le16}
use Rattle.windows.specs.Frames.{ended, tiny, cut, whole, Shown, none, bad, part, full, shown}
use Rattle.trace.proofs.frame.Goals as goal
use Rattle.trace.proofs.frame.Goals.{then-n-lt2-via-then-n-lt2, then-n-lt2-via-else-n-lt2+then-s-n}

-- no record is whole below four bytes
few : (s : List ℕ) → 0 < length s → length s < 4 → Shown s → Cut ≡ frame_of s
few s some h (none z e) = absurd (omega arith)
few s some h (bad two l e) = sym e
few s some h (part a l e) = sym e
few s some h (full least l e) = absurd (omega arith)

pub returns-then-n-lt2-clause-value : goal.returns-then-n-lt2-clause-value
returns-then-n-lt2-clause-value c =
    let s = c.args.s.now in
    let n : c.from_le_bytes-n.result ≡ le16 s 0 = omega (arith, c.from_le_bytes-n.ensures) in
    elim c.then-n-lt2.branch [
      | then-n-lt2-via-then-n-lt2 w ↦ sym (tiny s (λ e. omega arith) (omega arith) _ n w.if-n-lt2.true)
      | then-n-lt2-via-else-n-lt2+then-s-n w ↦ sym (cut s (λ e. omega arith) (omega arith) _ n w.if-n-lt2.false w.if-s-n.true)
    ]

pub returns-in-empty-clause-value : goal.returns-in-empty-clause-value
returns-in-empty-clause-value c = sym (ended _ (omega arith))

pub returns-in_default-clause-value : goal.returns-in_default-clause-value
returns-in_default-clause-value c = few _ (omega arith) (omega arith) (shown _)

pub returns-else-s-n-clause-value : goal.returns-else-s-n-clause-value
returns-else-s-n-clause-value c =
    let s = c.args.s.now in
    let n : c.from_le_bytes-n.result ≡ le16 s 0 = omega (arith, c.from_le_bytes-n.ensures) in
    let k : c.from_le_bytes.result ≡ le16 s 2 = omega (arith, c.from_le_bytes.ensures) in
    rw (k) (sym (whole s (λ e. omega arith) (omega arith) _ n c.if-n-lt2.false c.if-s-n.false))
