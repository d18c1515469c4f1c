use Rattle.std.proofs.Common.{refl, sym, inl, inr, rules}
use Rattle.ept_command.specs.declared.refusal.Refusal.TheVariants.{Memory}
use Rattle.ept_run.proofs.answers.tell.Goals as goal

pub returns-in-Ok : goal.returns-in-Ok
returns-in-Ok g c = (record { told = c.args.refusal; told_is = inl refl; status_is = sym c.refused.ensures.status; says = search rules }, c.refused.ensures.failure)

pub returns-in-Err : goal.returns-in-Err
returns-in-Err g c = (record { told = Memory; told_is = inr refl; status_is = sym c.refuse_memory.ensures.status; says = c.refuse_memory.ensures.says }, c.refuse_memory.ensures.failure)
