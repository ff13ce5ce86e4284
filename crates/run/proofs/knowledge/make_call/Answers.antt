use Rattle.run.proofs.knowledge.make_call.Goals as goal

pub unchecked-requires : goal.unchecked-requires
unchecked-requires c = c.requires.knows _ c.in-Passes.is
