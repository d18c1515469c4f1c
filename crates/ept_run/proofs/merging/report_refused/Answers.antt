use Rattle.std.proofs.Common.{◌≡◌, ◌⊎◌, Some, Err, refl, sym, subst, arith}
use Rattle.std.specs.Prelude.{codes}
use Rattle.ept_base.specs.Causes.{Rose}
use Rattle.ept_command.specs.declared.ended.Failure.TheVariants as failure
use Rattle.ept_command.specs.declared.refusal.Refusal.TheVariants.{Memory}
use Rattle.ept_command.specs.declared.refusal.MergeRefusal.{MergeRefusal}
use Rattle.ept_command.specs.declared.refusal.MergeRefusal.TheVariants.{NoPart, PartDiffers, PartDamaged}
use Rattle.ept_run.specs.Answers.{Says}
use Rattle.ept_run.specs.Merges.{as_build, part_text, IsMergeReported}
use Rattle.ept_run.proofs.Merged.{named_reported}
use Rattle.ept_run.proofs.merging.report_refused.Goals as goal

pub returns-in-NoPart : goal.returns-in-NoPart
returns-in-NoPart g c =
    let ended = c.refuse_for.result in
    let was = g.O.Sink.written c.args.out.now in
    let is = g.O.Sink.written c.refuse_for.new.out in
    let failed = Rose (g.O.Sink.faults c.args.out.now) (g.O.Sink.faults c.refuse_for.new.out) in
    let lacks = IsMergeReported (Err (as_build Memory)) ended.status ended.failure was is failed in
    let line = part_text (codes "error 6 part ") c.in-NoPart.octants in
    subst (λ (r : MergeRefusal). IsMergeReported (Err r) ended.status ended.failure was is failed ⊎ lacks) (sym c.in-NoPart.is)
    (named_reported ended.status ended.failure was is failed (NoPart c.in-NoPart.octants) 6 refl refl (omega arith) line refl
    (subst (λ (r : MergeRefusal). ((ended.status ≡ 6) × (ended.failure ≡ Some (failure.MergeRefused r)) × Says line was is failed) ⊎ lacks) c.in-NoPart.is c.refuse_for.ensures))

pub returns-in-PartDiffers : goal.returns-in-PartDiffers
returns-in-PartDiffers g c =
    let ended = c.refuse_for-in-PartDiffers.result in
    let was = g.O.Sink.written c.args.out.now in
    let is = g.O.Sink.written c.refuse_for-in-PartDiffers.new.out in
    let failed = Rose (g.O.Sink.faults c.args.out.now) (g.O.Sink.faults c.refuse_for-in-PartDiffers.new.out) in
    let lacks = IsMergeReported (Err (as_build Memory)) ended.status ended.failure was is failed in
    let line = part_text (codes "error 6 differs ") c.in-PartDiffers.octants in
    subst (λ (r : MergeRefusal). IsMergeReported (Err r) ended.status ended.failure was is failed ⊎ lacks) (sym c.in-PartDiffers.is)
    (named_reported ended.status ended.failure was is failed (PartDiffers c.in-PartDiffers.octants) 6 refl refl (omega arith) line refl
    (subst (λ (r : MergeRefusal). ((ended.status ≡ 6) × (ended.failure ≡ Some (failure.MergeRefused r)) × Says line was is failed) ⊎ lacks) c.in-PartDiffers.is c.refuse_for-in-PartDiffers.ensures))

pub returns-in-PartDamaged : goal.returns-in-PartDamaged
returns-in-PartDamaged g c =
    let ended = c.refuse_for-in-PartDamaged.result in
    let was = g.O.Sink.written c.args.out.now in
    let is = g.O.Sink.written c.refuse_for-in-PartDamaged.new.out in
    let failed = Rose (g.O.Sink.faults c.args.out.now) (g.O.Sink.faults c.refuse_for-in-PartDamaged.new.out) in
    let lacks = IsMergeReported (Err (as_build Memory)) ended.status ended.failure was is failed in
    let line = part_text (codes "error 8 part ") c.in-PartDamaged.octants in
    subst (λ (r : MergeRefusal). IsMergeReported (Err r) ended.status ended.failure was is failed ⊎ lacks) (sym c.in-PartDamaged.is)
    (named_reported ended.status ended.failure was is failed (PartDamaged c.in-PartDamaged.octants c.in-PartDamaged.key) 8 refl refl (omega arith) line refl
    (subst (λ (r : MergeRefusal). ((ended.status ≡ 8) × (ended.failure ≡ Some (failure.MergeRefused r)) × Says line was is failed) ⊎ lacks) c.in-PartDamaged.is c.refuse_for-in-PartDamaged.ensures))
