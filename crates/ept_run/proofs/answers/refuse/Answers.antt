use Rattle.std.proofs.Common.{refl, sym, inl, inr}
use Rattle.ept_command.specs.declared.refusal.Refusal.TheVariants.{Usage, Memory}
use Rattle.ept_run.proofs.answers.refuse.Goals as goal

pub returns-in-Usage : goal.returns-in-Usage
returns-in-Usage g c = (record { told = Usage; told_is = inl (sym c.in-Usage.is); status_is = sym c.refuse_usage.ensures.status; says = c.refuse_usage.ensures.says }, c.refuse_usage.ensures.failure)

pub returns-in-Memory : goal.returns-in-Memory
returns-in-Memory g c = (record { told = Memory; told_is = inr refl; status_is = sym c.refuse_memory.ensures.status; says = c.refuse_memory.ensures.says }, c.refuse_memory.ensures.failure)
