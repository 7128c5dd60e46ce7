use mathlib.Core.Path.{ap, ◌∙◌}
use Rattle.std.proofs.Common.{rules, arith}
use Rattle.buslist.proofs.Accept.{ranges}
use Rattle.units.specs.Setup.{setup_of}
use Rattle.registers.proofs.Steps.{same_then, starts_fewer, keeps_fewer}
use Rattle.calls.proofs.CallLaws.{first_stops, first_done}
use Rattle.engine.proofs.Result.{run_meant, with_setup}
use Rattle.engine.proofs.run_accepted.Goals as goal

pub setup_of-setup-requires : goal.setup_of-setup-requires
setup_of-setup-requires c = rw c.settings.ensures (ranges _ _ c.requires).frequency_above

pub returns-in_default : goal.returns-in_default
returns-in_default c =
    rw c.counts_of.ensures
    (run_meant _ _ c.requires _ (c.setup_of-setup.ensures ∙ ap setup_of c.settings.ensures) c.new-bus.ensures c.init-outcome.ensures.same (search rules) (search rules)
    (first_stops _ c.new-bus.ensures.with_setup c.init-outcome.ensures c.in_default.not-Ok))

pub run_calls-stopped-requires : goal.run_calls-stopped-requires
run_calls-stopped-requires c = ((_, c.requires), keeps_fewer c.init-outcome.ensures (starts_fewer c.new-bus.ensures (omega arith)))

pub returns : goal.returns
returns c =
    let same = same_then c.init-outcome.ensures.same c.run_calls-stopped.ensures.ends.same in
    rw c.counts_of-2.ensures
    (run_meant _ _ c.requires _ (c.setup_of-setup.ensures ∙ ap setup_of c.settings.ensures) c.new-bus.ensures same (let log = same.log in search rules) (let rx = same.rx in search rules)
    (first_done _ c.new-bus.ensures.with_setup c.init-outcome.ensures c.in-Ok.is
    ∙ (with_setup (c.init-outcome.ensures.same.setup ∙ c.new-bus.ensures.with_setup) c.run_calls-stopped.ensures.ends).is))
