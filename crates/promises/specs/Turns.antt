-- The turns of the restatement tell the history: a thread's jobs are those of its account, and its completions and granted ticks
-- those of the history.
use Rattle.std.specs.Prelude.{◌≡◌, Bool, eqb, take}
use Rattle.std.proofs.Math.Path.{refl, ap, ap₂}
use Rattle.std.proofs.Common.{sym, ◌∙◌, arith}
use Rattle.std.proofs.Math.Bool.{true, false, cond}
use mathlib.Core.List.{List, [], ◌∷◌, ◌++◌, map, map-append, append_assoc, append-nil}
use Prim.Native.Nat.{ℕ, zero, suc, ◌+◌, ◌-◌}
use Rattle.lists.specs.All.{All}
use Rattle.rules.specs.Threads.{State, at}
use Rattle.rules.specs.Table.{Answer, Done, Refused}
use Rattle.rules.specs.Completion.{completion}
use Rattle.rules.specs.Leaving.{gone}
use Rattle.rules.specs.Arrival.{arrival}
use Rattle.rules.specs.Drop.{dropped}
use Rattle.rules.specs.Step as steps
use Rattle.rules.specs.Step.{Outcome, Grant, Idle, ready, stepped}
use Rattle.rules.specs.Run.{ran}
use Rattle.rules.specs.Calls as calls
use Rattle.rules.specs.Calls.{Call, apply}
use Rattle.rules.specs.History as history
use Rattle.rules.specs.History.{Happening, completed, arrived, dropped_to_head, granted, if_done, retiring, waking, leavings, tick_as, ticks_of, run_as, happens, Job, Finished, Account, complete_head, with_waiting, account_of, account, completions_of, grants_to}
use Rattle.promises.specs.Happenings.{leavings_all, waking_all, retiring_all}
use Rattle.promises.specs.Accounts.{ticks_first, account_append, account_still, account_after, leavings_unseen, waking_unseen, retiring_unseen, completions_append, grants_append, NoCompletion, NoGrant, no_completions, no_grants}
use Rattle.promises.specs.Restated.{Asked, completion_of, arrival_of, drop_of, tick, Turn, ticks, if_accepted, turns_of, turns, Waiting, Completed, Jobs, arrives, head_of, drops, longer, finishes, grant_jobs, turn_jobs, jobs_after, moment_of, moments, grant_of, tick_of, grants}

-- ---- the turns tell the history
abbrev pub call_of : Asked → Call
call_of (completion_of i) = calls.complete i
call_of (arrival_of i) = calls.arrive i
call_of (drop_of i) = calls.drop i
call_of tick = calls.step

unfoldable pub told : List Turn → List Happening
told [] = []
told (m ∷ ms) = happens m.state (call_of m.asked) ++ told ms

told_append : (ms ns : List Turn) → told (ms ++ ns) ≡ told ms ++ told ns
unfolding told
told_append [] ns = refl
told_append (m ∷ ms) ns = let h = happens m.state (call_of m.asked) in ap (λ (l : List Happening). h ++ l) (told_append ms ns) ∙ sym (append_assoc h (told ms) (told ns))

ticks_told : (k : ℕ) (s : State) → ticks_of k s ≡ told (ticks k s)
unfolding told ticks
ticks_told zero s = unfold ticks_of in refl
ticks_told (suc k) s = ticks_first k s ∙ ap (λ (hs : List Happening). history.tick_of s ++ hs) (ticks_told k (stepped s).state)

run_told : (a : Answer) (k : ℕ) (s : State) → run_as a k s ≡ told (if_accepted a (ticks k s) [])
unfolding told
run_told Done k s = ticks_told k s
run_told (Refused n) k s = refl

call_told : (s : State) (c : Call) → happens s c ≡ told (turns_of s c)
unfolding told
call_told s (calls.complete i) = sym (append-nil _)
call_told s (calls.arrive i) = sym (append-nil _)
call_told s (calls.drop i) = sym (append-nil _)
call_told s calls.step = sym (append-nil _)
call_told s (calls.run to row) = run_told (ran s to row).result.answer (to - s.clock.0) s

pub history_told : (s : State) (cs : List Call) → history.history s cs ≡ told (turns s cs)
unfolding history.history turns
history_told s [] = unfold told in refl
history_told s (c ∷ cs) =
    ap (λ (hs : List Happening). hs ++ history.history (apply s c) cs) (call_told s c)
    ∙ ap (λ (hs : List Happening). told (turns_of s c) ++ hs) (history_told (apply s c) cs)
    ∙ sym (told_append (turns_of s c) (turns (apply s c) cs))

-- ---- the jobs are those of the account
abbrev pub as_waiting : Job → Waiting
as_waiting j = record { arrival = j.arrival; length = j.length }

abbrev pub as_completed : Finished → Completed
as_completed f = record { arrival = f.job.arrival; length = f.job.length; completion = f.completion }

abbrev pub as_jobs : Account → Jobs
as_jobs g = record { waiting = map as_waiting g.waiting; completed = map as_completed g.finished }

module _ (q u i : ℕ) (g : Account) where
  -- what an accepted event of thread k makes of them, and a refused one
  module _ (k : ℕ) (s : State) where
    abbrev t : ℕ
    t = s.clock.0

    accepted : (a : Answer) (hs : List Happening) (x : Jobs) → as_jobs (account q u i g hs) ≡ x → as_jobs (account q u i g (if_done a hs)) ≡ if_accepted a x (as_jobs g)
    accepted Done hs x e = e
    accepted (Refused n) hs x e = unfold account in refl

    -- .. by whether k is i
    own : (g' : Account) (x : Jobs) → as_jobs g' ≡ x → (c : Bool) → as_jobs (cond c g' g) ≡ cond c x (as_jobs g)
    own g' x e true = e
    own g' x e false = refl

    completed_jobs : as_jobs (account q u i g (completed k t ∷ retiring s k)) ≡ cond (eqb k i) (finishes t (as_jobs g).waiting (as_jobs g)) (as_jobs g)
    unfolding account
    completed_jobs = ap as_jobs (account_still q u i (retiring_unseen q u i s k) (account_of q u i g (completed k t))) ∙ own (complete_head q u t g g.waiting) _ (head g.waiting) (eqb k i)
      where
        head : (js : List Job) → as_jobs (complete_head q u t g js) ≡ finishes t (map as_waiting js) (as_jobs g)
        head [] = refl
        head (j ∷ js) = ap (λ (l : List Completed). record { waiting = map as_waiting js; completed = l }) (map-append as_completed g.finished _)

    arrived_jobs : as_jobs (account q u i g (leavings s ++ (waking (gone s) k ++ (arrived k t ∷ [])))) ≡ cond (eqb k i) (arrives t (as_jobs g)) (as_jobs g)
    unfolding account
    arrived_jobs =
        ap as_jobs (account_after q u i (leavings_unseen q u i s) g (waking (gone s) k ++ (arrived k t ∷ [])) ∙ account_after q u i (waking_unseen q u i (gone s) k) g (arrived k t ∷ []))
        ∙ own (with_waiting g (g.waiting ++ (record { arrival = t; length = 0 } ∷ []))) _ (ap (λ (l : List Waiting). record { waiting = l; completed = (as_jobs g).completed }) (map-append as_waiting g.waiting _)) (eqb k i)

    dropped_jobs : as_jobs (account q u i g (dropped_to_head k t ∷ [])) ≡ cond (eqb k i) (drops (as_jobs g)) (as_jobs g)
    unfolding account
    dropped_jobs = own (with_waiting g (take 1 g.waiting)) _ (ap (λ (l : List Waiting). record { waiting = l; completed = (as_jobs g).completed }) (head g.waiting)) (eqb k i)
      where
        head : (js : List Job) → map as_waiting (take 1 js) ≡ head_of (map as_waiting js)
        head [] = refl
        head (j ∷ js) = refl

  granted_jobs : (s : State) (o : Outcome) → as_jobs (account q u i g (tick_as o s)) ≡ grant_jobs i o (as_jobs g)
  unfolding account
  granted_jobs s (Grant k) =
      ap as_jobs (account_after q u i (leavings_unseen q u i s) g _)
      ∙ own k s (with_waiting g (history.longer g.waiting)) _ (ap (λ (l : List Waiting). record { waiting = l; completed = (as_jobs g).completed }) (head g.waiting)) (eqb k i)
    where
      head : (js : List Job) → map as_waiting (history.longer js) ≡ longer (map as_waiting js)
      head [] = refl
      head (j ∷ js) = refl
  granted_jobs s Idle = ap as_jobs (account_after q u i (leavings_unseen q u i s) g _)
  granted_jobs s (steps.Refused n) = refl

  turn_jobs_lem : (s : State) (a : Asked) → as_jobs (account q u i g (happens s (call_of a))) ≡ turn_jobs i s a (as_jobs g)
  unfolding history.tick_of
  turn_jobs_lem s (completion_of k) = accepted k s (completion s k).answer _ _ (completed_jobs k s)
  turn_jobs_lem s (arrival_of k) = accepted k s (arrival s k).answer _ _ (arrived_jobs k s)
  turn_jobs_lem s (drop_of k) = accepted k s (dropped s k).answer _ _ (dropped_jobs k s)
  turn_jobs_lem s tick = granted_jobs s (stepped s).outcome

pub jobs_told : (q u i : ℕ) (ms : List Turn) (g : Account) → as_jobs (account q u i g (told ms)) ≡ jobs_after i (as_jobs g) ms
unfolding told jobs_after
jobs_told q u i [] g = unfold account in refl
jobs_told q u i (m ∷ ms) g =
    let h = happens m.state (call_of m.asked) in
    ap as_jobs (account_append q u i g h (told ms))
    ∙ jobs_told q u i ms (account q u i g h)
    ∙ ap (λ (b : Jobs). jobs_after i b ms) (turn_jobs_lem q u i g m.state m.asked)

-- ---- nothing is left out
module _ (i : ℕ) where
  -- a part of the history before which, or after which, nothing completes or is granted
  moments_after : {hs : List Happening} → All (NoCompletion i) hs → (ks : List Happening) → completions_of i (hs ++ ks) ≡ completions_of i ks
  moments_after {hs} a ks = completions_append i hs ks ∙ ap (λ (l : List ℕ). l ++ completions_of i ks) (no_completions i a)

  grants_after : {hs : List Happening} → All (NoGrant i) hs → (ks : List Happening) → grants_to i (hs ++ ks) ≡ grants_to i ks
  grants_after {hs} a ks = omega (arith, grants_append i hs ks, no_grants i a)

  leavings_unmoved : (s : State) → All (NoCompletion i) (leavings s) × All (NoGrant i) (leavings s)
  unfolding completions_of grants_to
  leavings_unmoved s = (leavings_all (NoCompletion i) (λ _ _ _ _. refl) s, leavings_all (NoGrant i) (λ _ _ _ _. refl) s)

  waking_unmoved : (s : State) (k : ℕ) → All (NoCompletion i) (waking s k) × All (NoGrant i) (waking s k)
  unfolding completions_of grants_to
  waking_unmoved s k = (waking_all (NoCompletion i) (λ _ _. refl) s k, waking_all (NoGrant i) (λ _ _. refl) s k)

  retiring_unmoved : (s : State) (k : ℕ) → All (NoCompletion i) (retiring s k) × All (NoGrant i) (retiring s k)
  unfolding completions_of grants_to
  retiring_unmoved s k = (retiring_all (NoCompletion i) (λ _ _ _ _. refl) s k, retiring_all (NoGrant i) (λ _ _ _ _. refl) s k)

  turn_moment : (s : State) (a : Asked) → completions_of i (happens s (call_of a)) ≡ moment_of i s a
  unfolding completions_of history.tick_of
  turn_moment s (completion_of k) = go (completion s k).answer
    where
      own : (c : Bool) → cond c (s.clock.0 ∷ completions_of i (retiring s k)) (completions_of i (retiring s k)) ≡ cond c (s.clock.0 ∷ []) []
      own true = ap (λ (l : List ℕ). s.clock.0 ∷ l) (no_completions i (retiring_unmoved s k).0)
      own false = no_completions i (retiring_unmoved s k).0

      go : (a : Answer) → completions_of i (if_done a (completed k s.clock.0 ∷ retiring s k)) ≡ if_accepted a (cond (eqb k i) (s.clock.0 ∷ []) []) []
      go Done = own (eqb k i)
      go (Refused n) = refl
  turn_moment s (arrival_of k) = go (arrival s k).answer
    where
      go : (a : Answer) → completions_of i (if_done a (leavings s ++ (waking (gone s) k ++ (arrived k s.clock.0 ∷ [])))) ≡ []
      go Done = moments_after (leavings_unmoved s).0 _ ∙ moments_after (waking_unmoved (gone s) k).0 _
      go (Refused n) = refl
  turn_moment s (drop_of k) = go (dropped s k).answer
    where
      go : (a : Answer) → completions_of i (if_done a (dropped_to_head k s.clock.0 ∷ [])) ≡ []
      go Done = refl
      go (Refused n) = refl
  turn_moment s tick = go (stepped s).outcome
    where
      go : (o : Outcome) → completions_of i (tick_as o s) ≡ []
      go (Grant k) = moments_after (leavings_unmoved s).0 _
      go Idle = moments_after (leavings_unmoved s).0 _
      go (steps.Refused n) = refl

  turn_grants : (s : State) (a : Asked) → grants_to i (happens s (call_of a)) ≡ tick_of i s a
  unfolding grants_to history.tick_of
  turn_grants s (completion_of k) = go (completion s k).answer
    where
      go : (a : Answer) → grants_to i (if_done a (completed k s.clock.0 ∷ retiring s k)) ≡ 0
      go Done = no_grants i (retiring_unmoved s k).1
      go (Refused n) = refl
  turn_grants s (arrival_of k) = go (arrival s k).answer
    where
      go : (a : Answer) → grants_to i (if_done a (leavings s ++ (waking (gone s) k ++ (arrived k s.clock.0 ∷ [])))) ≡ 0
      go Done = grants_after (leavings_unmoved s).1 _ ∙ grants_after (waking_unmoved (gone s) k).1 _
      go (Refused n) = refl
  turn_grants s (drop_of k) = go (dropped s k).answer
    where
      go : (a : Answer) → grants_to i (if_done a (dropped_to_head k s.clock.0 ∷ [])) ≡ 0
      go Done = refl
      go (Refused n) = refl
  turn_grants s tick = go (stepped s).outcome
    where
      go : (o : Outcome) → grants_to i (tick_as o s) ≡ grant_of i o
      go (Grant k) = omega (arith, grants_after (leavings_unmoved s).1 (granted k s.clock.0 (at (ready s).threads k).e.0 ∷ []))
      go Idle = grants_after (leavings_unmoved s).1 _
      go (steps.Refused n) = refl

  pub moments_told : (ms : List Turn) → completions_of i (told ms) ≡ moments i ms
  unfolding told moments
  moments_told [] = unfold completions_of in refl
  moments_told (m ∷ ms) = completions_append i (happens m.state (call_of m.asked)) (told ms) ∙ ap₂ ◌++◌ (turn_moment m.state m.asked) (moments_told ms)

  pub grants_told : (ms : List Turn) → grants_to i (told ms) ≡ grants i ms
  unfolding told grants
  grants_told [] = unfold grants_to in refl
  grants_told (m ∷ ms) = grants_append i (happens m.state (call_of m.asked)) (told ms) ∙ ap₂ ◌+◌ (turn_grants m.state m.asked) (grants_told ms)
