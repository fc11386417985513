-- The ticks up to a moment, as a result of the code, and what a run does by it.
use Rattle.std.specs.Prelude.{◌≡◌, refl, Bool, true, false, ℕ, List, ◌+◌, ◌-◌, ◌≤◌, ◌++◌, ltb, cond, Result, Ok, Err, length, drop}
use Rattle.std.proofs.Common.{ap, subst, arith, ltb-false}
use Rattle.rules.specs.Limits.{clock_end}
use Rattle.rules.specs.Threads.{State}
use Rattle.rules.specs.Table.{Answered, done, refused}
use Rattle.rules.specs.Run.{Ran, unrun, ran, passed, state_after, row_after}
use Rattle.rules.specs.Refusals.{Refusal, BeforeTheClock, BeyondTheEnd, number}

-- "A run into a lent row: 12, 13": how many ticks there are from `now` to `to`
unfoldable pub until : ℕ → ℕ → Result ℕ Refusal
until now to =
    cond (ltb to now) (Err BeforeTheClock)
    (cond (ltb clock_end to) (Err BeyondTheEnd)
    (Ok (to - now)))

-- so many ticks, into a row that has room for them, or none
abbrev pub ran_by : Result ℕ Refusal → State → List ℕ → Ran
ran_by (Err e) s row = unrun (number e) s row
ran_by (Ok n) s row = cond (ltb (length row) n) (unrun 17 s row) (record { result = done (state_after n s); row = row_after n s ++ drop n row })

abbrev pub passed_by : Result ℕ Refusal → State → Answered
passed_by (Err e) s = refused (number e) s
passed_by (Ok n) s = done (state_after n s)

module _ (s : State) (to : ℕ) where
  pub ran_is : (row : List ℕ) → ran s to row ≡ ran_by (until s.clock.0 to) s row
  unfolding ran until
  ran_is row = go (ltb to s.clock.0) (ltb clock_end to)
    where
      n : ℕ
      n = to - s.clock.0

      it : Ran
      it = cond (ltb (length row) n) (unrun 17 s row) (record { result = done (state_after n s); row = row_after n s ++ drop n row })

      go : (a b : Bool) → cond a (unrun 12 s row) (cond b (unrun 13 s row) it) ≡ ran_by (cond a (Err BeforeTheClock) (cond b (Err BeyondTheEnd) (Ok n))) s row
      go true b = refl
      go false true = refl
      go false false = refl

  pub passed_is : passed s to ≡ passed_by (until s.clock.0 to) s
  unfolding passed until
  passed_is = go (ltb to s.clock.0) (ltb clock_end to)
    where
      n : ℕ
      n = to - s.clock.0

      go : (a b : Bool) → cond a (refused 12 s) (cond b (refused 13 s) (done (state_after n s))) ≡ passed_by (cond a (Err BeforeTheClock) (cond b (Err BeyondTheEnd) (Ok n))) s
      go true b = refl
      go false true = refl
      go false false = refl

-- so many ticks end by the clock's end
pub until_end : (now to n : ℕ) → Ok n ≡ until now to → now + n ≤ clock_end
unfolding until
until_end now to n = go (ltb to now) (ltb clock_end to) refl refl
  where
    -- the ticks of a result, and 0 for an error
    ticks : Result ℕ Refusal → ℕ
    ticks (Ok k) = k
    ticks (Err e) = 0

    Real : Result ℕ Refusal → Type 0
    Real (Ok k) = Unit {0}
    Real (Err e) = ⊥

    go : (a b : Bool) → ltb to now ≡ a → ltb clock_end to ≡ b → Ok n ≡ cond a (Err BeforeTheClock) (cond b (Err BeyondTheEnd) (Ok (to - now))) → now + n ≤ clock_end
    go true b p q e = absurd (subst Real e tt)
    go false true p q e = absurd (subst Real e tt)
    go false false p q e = let k : n ≡ to - now = ap ticks e in omega (arith, k, ltb-false _ _ p, ltb-false _ _ q)
