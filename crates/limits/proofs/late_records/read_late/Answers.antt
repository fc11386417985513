use Rattle.std.proofs.Common.{◌≡◌, refl, subst, ℕ, zero, suc, ◌+◌, ◌≤◌, arith}
use Rattle.lists.specs.All.{none, more}
use Rattle.rules.specs.Limits.{clock_end}
use Rattle.rules.specs.Threads.{State}
use Rattle.rules.specs.Table.{head_answer, row_answer, shares_to, opened_to, start}
use Rattle.rules.specs.Records.{Head, Row}
use Rattle.rules.specs.Reading.{Reading, fresh, with_state, record_read}
use Rattle.rules.specs.Input.{GivenReading}
use Rattle.promises.specs.Idle.{NoneActive, idle_to, with_clock, rest_steps}
use Rattle.windows.specs.Readings.{given_fresh, reading_by, reading_ticks}
use Rattle.limits.proofs.late_records.read_late.Goals as goal

abbrev row_read : Reading
row_read = (record_read (record_read fresh (Head 1 1)).reading (Row (record { app = 0; share = 1; period = 1 }))).reading

row_given : GivenReading row_read
row_given = reading_by (reading_by given_fresh (Head 1 1)) _

row_rest : NoneActive row_read.state
unfolding record_read head_answer row_answer shares_to start opened_to
row_rest = more refl none

-- the reading is given at every moment of the clock
all_late : (m : ℕ) → m ≤ clock_end → GivenReading (with_state row_read (with_clock m row_read.state))
unfolding record_read head_answer row_answer shares_to start
all_late zero h = row_given
all_late (suc m) h =
    let e : 0 + suc m ≡ suc m = omega arith in
    subst (λ (k : ℕ). GivenReading (with_state row_read (idle_to k row_read.state))) e
    (subst (λ (z : State). GivenReading (with_state row_read z)) (rest_steps m row_read.state row_rest (omega arith)) (reading_ticks row_given (suc m) refl (omega arith)))

pub after-headed-requires : goal.after-headed-requires
after-headed-requires c = rw c.begin.ensures given_fresh

pub after-r-requires : goal.after-r-requires
after-r-requires c = rw (c.after-headed.ensures, c.begin.ensures) (reading_by given_fresh (Head 1 1))

pub returns : goal.returns
returns c = (rw (c.after-r.ensures, c.after-headed.ensures, c.begin.ensures) (all_late _ c.requires), refl)
