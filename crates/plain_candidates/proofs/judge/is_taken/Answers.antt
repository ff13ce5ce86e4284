use Rattle.std.proofs.Common.{◌≡◌, ◌∙◌, sym, rules}
use Rattle.std.specs.Prelude.{count_by}
use Rattle.plain_lists.specs.Lists.{entries_of}
use Rattle.plain_lists.proofs.Listing.{count_is}
use Rattle.plain_candidates.proofs.Judging.{names_it, taken_is}
use Rattle.plain_candidates.proofs.judge.is_taken.Goals as goal

pub returns : goal.returns
returns c =
    let h : c.count.result ≡ count_by (names_it c.args.x) (entries_of c.args.got) = search rules in
    rw (h ∙ sym (count_is (names_it c.args.x) (entries_of c.args.got))) (taken_is c.args.x (entries_of c.args.got))
