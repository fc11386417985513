-- A history in parts: its ticks, the account of a thread, and what it has of a thread.
use Rattle.std.specs.Prelude.{◌≡◌, Bool, true, false, cond, ℕ, zero, suc, ◌+◌, eqb}
use Rattle.std.proofs.Math.Path.{refl, ap, ap₂}
use Rattle.std.proofs.Common.{sym, ◌∙◌}
use mathlib.Core.List.{List, [], ◌∷◌, ◌++◌, append_assoc, append-nil}
use native.Mathlib.Omega.{arith}
use Rattle.lists.specs.All.{All, none, more}
use Rattle.rules.specs.Threads.{State}
use Rattle.rules.specs.Step.{stepped}
use Rattle.rules.specs.Run.{state_after}
use Rattle.rules.specs.History.{tick_of, ticks_of, Happening, completed, arrived, dropped_to_head, granted, idle_tick, became_active, became_inactive, waking, retiring, leavings, Account, account_of, account, completions_of, grants_to}
use Rattle.promises.specs.Happenings.{leavings_all, waking_all, retiring_all}

-- ---- the first of k + 1 ticks, and then the rest
pub steps_first : (k : ℕ) (s : State) → state_after (suc k) s ≡ state_after k (stepped s).state
unfolding state_after
steps_first zero s = refl
steps_first (suc k) s = ap (λ (z : State). (stepped z).state) (steps_first k s)

pub ticks_first : (k : ℕ) (s : State) → ticks_of (suc k) s ≡ tick_of s ++ ticks_of k (stepped s).state
unfolding ticks_of state_after
ticks_first zero s = sym (append-nil (tick_of s))
ticks_first (suc k) s =
    ap (λ (hs : List Happening). hs ++ tick_of (state_after (suc k) s)) (ticks_first k s)
    ∙ append_assoc (tick_of s) (ticks_of k (stepped s).state) (tick_of (state_after (suc k) s))
    ∙ ap (λ (z : State). tick_of s ++ (ticks_of k (stepped s).state ++ tick_of z)) (steps_first k s)

-- ---- the account goes on from where it was
pub account_append : (q u i : ℕ) (g : Account) (hs ks : List Happening) → account q u i g (hs ++ ks) ≡ account q u i (account q u i g hs) ks
unfolding account
account_append q u i g [] ks = refl
account_append q u i g (h ∷ hs) ks = account_append q u i (account_of q u i g h) hs ks

-- .. and does not see who becomes active or inactive
module _ (q u i : ℕ) where
  abbrev pub Unseen : Happening → Type 0
  Unseen h = (g : Account) → account_of q u i g h ≡ g

  pub account_still : {hs : List Happening} → All Unseen hs → (g : Account) → account q u i g hs ≡ g
  unfolding account
  account_still none g = refl
  account_still (more {xs = hs} p a) g = ap (λ k. account q u i k hs) (p g) ∙ account_still a g

  pub account_after : {hs : List Happening} → All Unseen hs → (g : Account) (ks : List Happening) → account q u i g (hs ++ ks) ≡ account q u i g ks
  account_after {hs} a g ks = account_append q u i g hs ks ∙ ap (λ k. account q u i k ks) (account_still a g)

  pub leavings_unseen : (s : State) → All Unseen (leavings s)
  leavings_unseen s = leavings_all Unseen (λ _ _ _ _ _. refl) s

  pub waking_unseen : (s : State) (j : ℕ) → All Unseen (waking s j)
  waking_unseen s j = waking_all Unseen (λ _ _ _. refl) s j

  pub retiring_unseen : (s : State) (j : ℕ) → All Unseen (retiring s j)
  retiring_unseen s j = retiring_all Unseen (λ _ _ _ _ _. refl) s j

-- ---- what a history has of a thread, its first thing apart
pub completions_cons : (i : ℕ) (h : Happening) (hs : List Happening) → completions_of i (h ∷ hs) ≡ completions_of i (h ∷ []) ++ completions_of i hs
unfolding completions_of
completions_cons i (completed k t) hs = go (eqb k i)
  where
    go : (b : Bool) → cond b (t ∷ completions_of i hs) (completions_of i hs) ≡ cond b (t ∷ []) [] ++ completions_of i hs
    go true = refl
    go false = refl
completions_cons i (arrived k t) hs = refl
completions_cons i (dropped_to_head k t) hs = refl
completions_cons i (granted k t e) hs = refl
completions_cons i (idle_tick t) hs = refl
completions_cons i (became_active k t) hs = refl
completions_cons i (became_inactive k t z f) hs = refl

pub grants_cons : (i : ℕ) (h : Happening) (hs : List Happening) → grants_to i (h ∷ hs) ≡ grants_to i (h ∷ []) + grants_to i hs
unfolding grants_to
grants_cons i (completed k t) hs = omega arith
grants_cons i (arrived k t) hs = omega arith
grants_cons i (dropped_to_head k t) hs = omega arith
grants_cons i (granted k t e) hs = omega arith
grants_cons i (idle_tick t) hs = omega arith
grants_cons i (became_active k t) hs = omega arith
grants_cons i (became_inactive k t z f) hs = omega arith

-- .. and in two parts
pub completions_append : (i : ℕ) (hs ks : List Happening) → completions_of i (hs ++ ks) ≡ completions_of i hs ++ completions_of i ks
unfolding completions_of
completions_append i [] ks = refl
completions_append i (h ∷ hs) ks =
    completions_cons i h (hs ++ ks)
    ∙ ap (λ (l : List ℕ). completions_of i (h ∷ []) ++ l) (completions_append i hs ks)
    ∙ sym (append_assoc (completions_of i (h ∷ [])) (completions_of i hs) (completions_of i ks))
    ∙ ap (λ (l : List ℕ). l ++ completions_of i ks) (sym (completions_cons i h hs))

pub grants_append : (i : ℕ) (hs ks : List Happening) → grants_to i (hs ++ ks) ≡ grants_to i hs + grants_to i ks
grants_append i [] ks = unfold grants_to in omega arith
grants_append i (h ∷ hs) ks = omega (arith, grants_cons i h (hs ++ ks), grants_cons i h hs, grants_append i hs ks)

-- .. and of things that are neither a completion nor a tick
module _ (i : ℕ) where
  abbrev pub NoCompletion : Happening → Type 0
  NoCompletion h = completions_of i (h ∷ []) ≡ []

  abbrev pub NoGrant : Happening → Type 0
  NoGrant h = grants_to i (h ∷ []) ≡ 0

  pub no_completions : {hs : List Happening} → All NoCompletion hs → completions_of i hs ≡ []
  unfolding completions_of
  no_completions none = refl
  no_completions (more {x = h} {xs = hs} p a) = completions_cons i h hs ∙ ap₂ ◌++◌ p (no_completions a)

  pub no_grants : {hs : List Happening} → All NoGrant hs → grants_to i hs ≡ 0
  no_grants none = unfold grants_to in refl
  no_grants (more {x = h} {xs = hs} p a) = omega (arith, grants_cons i h hs, p, no_grants a)
