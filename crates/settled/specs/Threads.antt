-- "Any two outcomes it allows are proved to be one", and what it asks, of the functions of `threads`: no more than that threads and amounts
-- are within bounds. `given_sound` of the promises has `Sound` of every given state, and with it `RowOk` of each of its threads.
-- κs: lifetimes; a: what is passed; r: the answer; s: what is lent, at the end, or in `-asks` a state.
use Rattle.std.specs.Prelude.{◌≡◌, ℕ, ◌≤◌, List, None, Some}
use Rattle.std.proofs.Common.{◌∙◌, arith}
use Rattle.std.specs.Int.{w64}
use Rattle.quantities.specs.declared.Amount.{Amount}
use Rattle.integers.specs.Parts.{Small, small_add, small_sub, small_times}
use Rattle.rules.specs.Limits.{max_q}
use Rattle.rules.specs.Threads.{Thread, State, at, compare}
use Rattle.promises.specs.Sound.{Sound, RowOk}
use Rattle.promises.specs.Item3.{deadline_of}
use Rattle.promises.specs.Remainders.{parted, parts_compare}
use Rattle.promises.specs.Tables.{leading}
use Rattle.settled.specs.One.{one}
use Rattle.quantities.proofs.AmountAdd.add.Reads as add
use Rattle.quantities.proofs.AmountSub.sub.Reads as sub
use Rattle.quantities.proofs.AmountMulU32.mul.Reads as times
use Rattle.quantities.proofs.AmountFromU32.from.Reads as parts
use Rattle.threads.proofs.amounts.count_of.Reads as count_of
use Rattle.threads.proofs.amounts.scaled.Reads as scaled
use Rattle.threads.proofs.thread.inactive.Reads as inactive
use Rattle.threads.proofs.thread.contends.Reads as contends
use Rattle.threads.proofs.thread.is_active.Reads as is_active
use Rattle.threads.proofs.thread.spare.Reads as spare
use Rattle.threads.proofs.thread.at_rest.Reads as at_rest
use Rattle.threads.proofs.thread.left.Reads as left
use Rattle.threads.proofs.thread.left_unless.Reads as left_unless
use Rattle.threads.proofs.thread.fit_one.Reads as fit_one
use Rattle.threads.proofs.thread.deadline.Reads as deadline
use Rattle.threads.proofs.thread.compared.Reads as compared
use Rattle.threads.proofs.thread.earlier.Reads as earlier
use Rattle.threads.proofs.thread.closer.Reads as closer
use Rattle.threads.proofs.thread.lighter.Reads as lighter
use Rattle.threads.proofs.receiving.ending.Reads as ending
use Rattle.threads.proofs.receiving.find_receiver.Reads as find_receiver

-- ---- amounts
pub add_one : (κs : _) (a : _) (r r' : _) (s s' : _) → add.Learnt κs a r s → add.Learnt κs a r' s' → r ≡ r'
add_one κs a r r' s s' p q = one p q

pub add_asks : (κs : _) (x : Amount) (y : Amount) → Small x.0 → Small y.0 → add.Asked κs (x, (y, tt))
add_asks κs x y f g = small_add w64 x.0 y.0 (omega arith) f g

pub sub_one : (κs : _) (a : _) (r r' : _) (s s' : _) → sub.Learnt κs a r s → sub.Learnt κs a r' s' → r ≡ r'
sub_one κs a r r' s s' p q = one p q

pub sub_asks : (κs : _) (x : Amount) (y : Amount) → Small x.0 → Small y.0 → sub.Asked κs (x, (y, tt))
sub_asks κs x y f g = small_sub w64 x.0 y.0 (omega arith) f g

pub parts_one : (κs : _) (a : _) (r r' : _) (s s' : _) → parts.Learnt κs a r s → parts.Learnt κs a r' s' → r ≡ r'
parts_one κs a r r' s s' p q = one p q

pub parts_asks : (κs : _) (a : _) → parts.Asked κs a
parts_asks κs a = tt

pub times_one : (κs : _) (a : _) (r r' : _) (s s' : _) → times.Learnt κs a r s → times.Learnt κs a r' s' → r ≡ r'
times_one κs a r r' s s' p q = one p q

pub times_asks : (κs : _) (x : Amount) (u : ℕ) → Small x.0 → u ≤ max_q → times.Asked κs (x, (u, tt))
times_asks κs x u f g = small_times w64 x.0 u (omega arith) f g

pub count_of_one : (κs : _) (a : _) (r r' : _) (s s' : _) → count_of.Learnt κs a r s → count_of.Learnt κs a r' s' → r ≡ r'
count_of_one κs a r r' s s' p q = one p q

pub count_of_asks : (κs : _) (x : Thread) → RowOk x → count_of.Asked κs (x.e, tt)
count_of_asks κs x g = g.e_whole

pub scaled_one : (κs : _) (a : _) (r r' : _) (s s' : _) → scaled.Learnt κs a r s → scaled.Learnt κs a r' s' → r ≡ r'
scaled_one κs a r r' s s' p q = one p q

pub scaled_asks : (κs : _) (u : ℕ) (m : _) → u ≤ max_q → scaled.Asked κs (u, (m, tt))
scaled_asks κs u m g = g

-- ---- one thread
pub inactive_one : (κs : _) (a : _) (r r' : _) (s s' : _) → inactive.Learnt κs a r s → inactive.Learnt κs a r' s' → r ≡ r'
inactive_one κs a r r' s s' p q = one p q

pub inactive_asks : (κs : _) (a : _) → inactive.Asked κs a
inactive_asks κs a = tt

pub contends_one : (κs : _) (a : _) (r r' : _) (s s' : _) → contends.Learnt κs a r s → contends.Learnt κs a r' s' → r ≡ r'
contends_one κs a r r' s s' p q = one p q

pub contends_asks : (κs : _) (a : _) → contends.Asked κs a
contends_asks κs a = tt

pub is_active_one : (κs : _) (a : _) (r r' : _) (s s' : _) → is_active.Learnt κs a r s → is_active.Learnt κs a r' s' → r ≡ r'
is_active_one κs a r r' s s' p q = one p q

pub is_active_asks : (κs : _) (a : _) → is_active.Asked κs a
is_active_asks κs a = tt

pub spare_one : (κs : _) (a : _) (r r' : _) (s s' : _) → spare.Learnt κs a r s → spare.Learnt κs a r' s' → r ≡ r'
spare_one κs a r r' s s' p q = one p q

pub spare_asks : (κs : _) (a : _) → spare.Asked κs a
spare_asks κs a = tt

pub at_rest_one : (κs : _) (a : _) (r r' : _) (s s' : _) → at_rest.Learnt κs a r s → at_rest.Learnt κs a r' s' → r ≡ r'
at_rest_one κs a r r' s s' p q = one p q

pub at_rest_asks : (κs : _) (a : _) → at_rest.Asked κs a
at_rest_asks κs a = tt

pub left_one : (κs : _) (a : _) (r r' : _) (s s' : _) → left.Learnt κs a r s → left.Learnt κs a r' s' → r ≡ r'
left_one κs a r r' s s' p q = one p q

pub left_asks : (κs : _) (x : Thread) (m : _) → RowOk x → left.Asked κs (x, (m, tt))
left_asks κs x m g = g.share_max

pub left_unless_one : (κs : _) (a : _) (r r' : _) (s s' : _) → left_unless.Learnt κs a r s → left_unless.Learnt κs a r' s' → r ≡ r'
left_unless_one κs a r r' s s' p q = one p q

pub left_unless_asks : (κs : _) (b : _) (x : Thread) (m : _) → RowOk x → left_unless.Asked κs (b, (x, (m, tt)))
left_unless_asks κs b x m g = g.share_max

pub fit_one_one : (κs : _) (a : _) (r r' : _) (s s' : _) → fit_one.Learnt κs a r s → fit_one.Learnt κs a r' s' → r ≡ r'
fit_one_one κs a r r' s s' p q = one p q

pub fit_one_asks : (κs : _) (x : Thread) (n : _) → RowOk x → fit_one.Asked κs (x, (n, tt))
fit_one_asks κs x n g = g

pub deadline_one : (κs : _) (a : _) (r r' : _) (s s' : _) → deadline.Learnt κs a r s → deadline.Learnt κs a r' s' → r ≡ r'
deadline_one κs a r r' s s' p q = one p q

pub deadline_asks : (κs : _) (x : Thread) → RowOk x → deadline.Asked κs (x, tt)
deadline_asks κs x g = g

pub compared_one : (κs : _) (a : _) (r r' : _) (s s' : _) → compared.Learnt κs a r s → compared.Learnt κs a r' s' → r ≡ r'
compared_one κs a r r' s s' p q = one p q

pub compared_asks : (κs : _) (x : Thread) (y : Thread) → RowOk x → RowOk y → compared.Asked κs (deadline_of x, (deadline_of y, tt))
compared_asks κs x y f g = (parted f, parted g)

-- document 02, Item 3, "No answer changes": of two threads' deadlines it tells what the rules' comparison of the threads does
pub compared_is : (κs : _) (x : Thread) (y : Thread) (r s : _) → RowOk x → RowOk y → compared.Learnt κs (deadline_of x, (deadline_of y, tt)) r s → r ≡ compare x y
compared_is κs x y r s f g p = p ∙ parts_compare f g

pub earlier_one : (κs : _) (a : _) (r r' : _) (s s' : _) → earlier.Learnt κs a r s → earlier.Learnt κs a r' s' → r ≡ r'
earlier_one κs a r r' s s' p q = one p q

pub earlier_asks : (κs : _) (x : Thread) (y : Thread) → RowOk x → RowOk y → earlier.Asked κs (deadline_of x, (deadline_of y, tt))
earlier_asks κs x y f g = (parted f, parted g)

pub closer_one : (κs : _) (a : _) (r r' : _) (s s' : _) → closer.Learnt κs a r s → closer.Learnt κs a r' s' → r ≡ r'
closer_one κs a r r' s s' p q = one p q

pub closer_asks : (κs : _) (xs : List Thread) (b i : ℕ) → RowOk (at xs b) → RowOk (at xs i) → closer.Asked κs (Some (leading xs b), (leading xs i, tt))
closer_asks κs xs b i f g = (parted g, parted f)

-- .. and where there is none so far
pub closer_asks_first : (κs : _) (xs : List Thread) (i : ℕ) → RowOk (at xs i) → closer.Asked κs (None, (leading xs i, tt))
closer_asks_first κs xs i g = (parted g, tt)

pub lighter_one : (κs : _) (a : _) (r r' : _) (s s' : _) → lighter.Learnt κs a r s → lighter.Learnt κs a r' s' → r ≡ r'
lighter_one κs a r r' s s' p q = one p q

pub lighter_asks : (κs : _) (x : Thread) (d : Amount) → RowOk x → Small d.0 → lighter.Asked κs (x, (d, tt))
lighter_asks κs x d f g = (f.w_small, g)

-- ---- who receives
pub ending_one : (κs : _) (a : _) (r r' : _) (s s' : _) → ending.Learnt κs a r s → ending.Learnt κs a r' s' → r ≡ r'
ending_one κs a r r' s s' p q = one p q

pub ending_asks : (κs : _) (a : _) → ending.Asked κs a
ending_asks κs a = tt

pub find_receiver_one : (κs : _) (a : _) (r r' : _) (s s' : _) → find_receiver.Learnt κs a r s → find_receiver.Learnt κs a r' s' → r ≡ r'
find_receiver_one κs a r r' s s' p q = one p q

pub find_receiver_asks : (κs : _) (s : State) (x : Thread) → Sound s → RowOk x → find_receiver.Asked κs (s, (x, tt))
find_receiver_asks κs s x f g = (f, g)
