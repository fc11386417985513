use Rattle.std.proofs.Common.{refl, sym, ap, ◌∙◌}
use Rattle.rules.specs.Choice.{chosen}
use Rattle.rules.specs.Charge.{charged, moved}
use Rattle.promises.specs.Always.{given_good}
use Rattle.promises.specs.Taken.{Chose, chose, l_steady, z_steady, z_time, z_free, b_in, is_idle, is_grant}
use Rattle.promises.specs.Tables.{led_nobody, led_thread}
use Rattle.promises.specs.Sound.{sound}
use Rattle.schedule.proofs.step.tick.Goals as goal
use Rattle.schedule.proofs.step.tick.Goals.{After-fit-it}

pub leave-free-requires : goal.leave-free-requires
leave-free-requires c = given_good c.requires.0

pub fit-it-requires : goal.fit-it-requires
fit-it-requires c = (l_steady c.leave-free.ensures, c.leave-free.ensures.free)

-- what is known once a thread, or nobody, is chosen
its : (c : After-fit-it) → Chose c.args.s.now c.leave-free.new.s c.fit-it.new.s (chosen c.fit-it.new.s)
its c = chose c.leave-free.ensures c.requires.1 c.fit-it.ensures.fit _ refl

pub charge-requires : goal.charge-requires
charge-requires c =
    let h = its (goal.at.charge-requires c).After-fit-it in
    let t = led_thread _ _ (sym c.in-Some.is ∙ c.fit-it.ensures.chosen) in
    (z_steady h, rw t.0 (b_in h t.1), z_time h, z_free h _ c.leave-free.ensures.free, c.fit-it.ensures.best)

pub idle_tick-requires : goal.idle_tick-requires
idle_tick-requires c =
    let h = its (goal.at.idle_tick-requires c).After-fit-it in
    (sound (z_steady h), z_time h)

pub returns-in-Some : goal.returns-in-Some
returns-in-Some c =
    let h = its (goal.at.returns-in-Some c).After-fit-it in
    let t = led_thread _ _ (sym c.in-Some.is ∙ c.fit-it.ensures.chosen) in
    is_grant h t.1 _ (c.charge.ensures ∙ ap (λ b. moved (charged c.fit-it.new.s b) b) t.0)

pub returns-in-None : goal.returns-in-None
returns-in-None c =
    let h = its (goal.at.returns-in-None c).After-fit-it in
    is_idle h (led_nobody _ _ (sym c.in-None.is ∙ c.fit-it.ensures.chosen)) _ c.idle_tick.ensures
