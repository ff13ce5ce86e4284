use Rattle.plain_scan.proofs.Scanning.{look_pass, look_gone, look_blocked, look_space, look_ready}
use Rattle.plain_scan.proofs.Scan.look_at.Goals as goal

pub returns-in-Pass : goal.returns-in-Pass
returns-in-Pass c = look_pass c.args.n c.args.t c.args.e c.args.self c.args.v c.in-Pass.is c.requires.sound

pub returns-in-Gone : goal.returns-in-Gone
returns-in-Gone c = look_gone c.args.n c.args.t c.args.e c.args.self c.args.v c.in-Gone.is c.give_up.ensures

pub returns-in-Blocked : goal.returns-in-Blocked
returns-in-Blocked c = look_blocked c.args.n c.args.t c.args.e c.args.self c.args.v _ c.args.x c.weight_of-w.result c.record-was.result c.in-Blocked.is c.store.ensures c.record-was.ensures c.requires.x_lt_n.1 c.weight_of-w.ensures.0 c.weight_of-w.ensures.1 c.give_up-in-Blocked.ensures

pub returns-in-NoAddrSpace : goal.returns-in-NoAddrSpace
returns-in-NoAddrSpace c = look_space c.args.n c.args.t c.args.e c.args.self c.args.v _ c.in-NoAddrSpace.is c.store-in-NoAddrSpace.ensures

pub returns-in-Ready : goal.returns-in-Ready
returns-in-Ready c = look_ready c.args.n c.args.t c.args.e c.args.self c.args.v _ c.in-Ready.is c.store-in-Ready.ensures c.take.ensures
