use Rattle.std.proofs.Common.{◌⊎◌, Err, sym, subst}
use Rattle.ept_base.specs.Causes.{Rose}
use Rattle.ept_command.specs.declared.refusal.Refusal.TheVariants.{Memory}
use Rattle.ept_command.specs.declared.refusal.PartRefusal.{PartRefusal}
use Rattle.ept_command.specs.declared.refusal.PartRefusal.TheVariants.{AsBuild}
use Rattle.ept_run.specs.Parts.{Outcome, IsPartReported}
use Rattle.ept_run.proofs.Parted.{refusal_reported}
use Rattle.ept_run.proofs.parting.report.Goals as goal

pub returns-in-Err-AsBuild : goal.returns-in-Err-AsBuild
returns-in-Err-AsBuild g c =
    let ended = c.refuse.result in
    let was = g.O.Sink.written c.args.out.now in
    let is = g.O.Sink.written c.refuse.new.out in
    let failed = Rose (g.O.Sink.faults c.args.out.now) (g.O.Sink.faults c.refuse.new.out) in
    let lacks = IsPartReported (Err (AsBuild Memory)) ended.status ended.failure was is failed in
    subst (λ (o : Outcome). IsPartReported o ended.status ended.failure was is failed ⊎ lacks) (sym c.in-Err-AsBuild.is)
    (subst (λ (r : PartRefusal). IsPartReported (Err r) ended.status ended.failure was is failed ⊎ lacks) (sym c.in-Err-AsBuild.field-0-is)
    (refusal_reported ended.status ended.failure was is failed c.in-Err-AsBuild.refusal c.refuse.ensures))
