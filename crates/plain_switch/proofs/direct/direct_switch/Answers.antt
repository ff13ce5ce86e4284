use Rattle.plain_switch.proofs.Directly.{put_fits, put_below}
use Rattle.plain_switch.proofs.direct.direct_switch.Goals as goal

pub switch_to-requires : goal.switch_to-requires
switch_to-requires c = record { sound = (c.put_context.ensures.sound, put_fits c.args.n c.args.x c.args.s _ c.args.q c.put_context.ensures c.requires.sound.1 c.requires.context_fits.0, c.requires.sound.2, c.requires.sound.3, c.requires.sound.4); state_below = put_below c.args.n c.args.x c.args.s _ c.args.q c.put_context.ensures c.requires.state_below c.requires.context_fits.1 }
