use Rattle.std.proofs.lemmas.Fn.{filter_same}
use Rattle.std.proofs.Common.{rules}
use Rattle.desq_run.proofs.SeedLemmas.{has_seed, tested, own-complete, own-rising, own-exact}
use Rattle.desq_run.proofs.shares.own_seeds.Goals as goal

pub returns-clause-complete : goal.returns-clause-complete
returns-clause-complete c = own-complete c.args.share c.args.seeds.items c.retain.new.self.items
    (filter_same _ (has_seed c.args.share) _
    (λ seed b f k. let least = c.requires.least in let within = c.requires.within in (tested c.args.share seed b (search rules), search rules)) _ _ c.retain.ensures.filtered)

pub returns-clause-rising : goal.returns-clause-rising
returns-clause-rising c = own-rising c.args.share c.args.seeds.items c.retain.new.self.items
    (filter_same _ (has_seed c.args.share) _
    (λ seed b f k. let least = c.requires.least in let within = c.requires.within in (tested c.args.share seed b (search rules), search rules)) _ _ c.retain.ensures.filtered)

pub returns-clause-exact : goal.returns-clause-exact
returns-clause-exact c = own-exact c.args.share c.args.seeds.items c.retain.new.self.items
    (filter_same _ (has_seed c.args.share) _
    (λ seed b f k. let least = c.requires.least in let within = c.requires.within in (tested c.args.share seed b (search rules), search rules)) _ _ c.retain.ensures.filtered)
