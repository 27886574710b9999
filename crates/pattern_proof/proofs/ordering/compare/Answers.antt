use Rattle.std.proofs.Common.{rules, ◌≡◌, refl}
use Rattle.std.specs.Ordering.{nat_cmp}
use Rattle.std.specs.Cmp.Lexicographic.{slice_cmp}
use Rattle.std.proofs.lemmas.Iterator.{YieldsList-from_slice, YieldsList-from_map_by}
use Rattle.std.proofs.lemmas.Iterator.Consumers.{YieldsList-at}
use Rattle.std.proofs.lemmas.Iterator.Search.{cmp_from_yields_List}
use Rattle.mine_model.specs.Names.{name_of}
use Rattle.pattern_proof.proofs.ordering.compare.Goals as goal

pub returns : goal.returns
returns c =
    cmp_from_yields_List (λ x y. y ≡ x) _ (slice_cmp nat_cmp) _ c.cmp.ensures.ran
    (YieldsList-from_map_by _ (λ r. r.now) (name_of c.args.names.now) (YieldsList-from_slice c.args.first.now (cc)) c.map-first.ensures.closure (λ x r q k. search rules))
    (λ it e. YieldsList-at e (YieldsList-from_map_by _ (λ r. r.now) (name_of c.args.names.now) (YieldsList-from_slice c.args.second.now (cc)) c.map-second.ensures.closure (λ x r q k. search rules)))
    (λ x y. refl)
