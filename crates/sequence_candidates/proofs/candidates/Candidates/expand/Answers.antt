use Rattle.std.proofs.Common.{◌≡◌, ◌<◌, Some, length, sym, ap, ◌∙◌, subst, rules}
use Rattle.sequence_grids.specs.Grids.{GridList}
use Rattle.candidate_graph.specs.Graphs.{Grows}
use Rattle.sequence_candidates.specs.declared.terrain.AnyTerrain.TheVariants.{One, Four, Wide}
use Rattle.sequence_candidates.specs.Candidates.{CandidatesValue}
use Rattle.sequence_candidates.proofs.KeptLemmas.{on-one, on-four, on-wide, kept-grown, grows-same}
use Rattle.sequence_candidates.proofs.candidates.Candidates.expand.Goals as goal

pub invariant_of-self : goal.invariant_of-self
invariant_of-self c = c.self.invariant

pub expand_over-requires : goal.expand_over-requires
expand_over-requires c =
    let part : GridList = record { problem = c.self.inside.job.now; bound = c.self.inside.bound; sequences = c.self.inside.sequences.items } in
    let (index, same) = c.requires.begun in
    let begun_is : c.self.inside.begun ≡ Some index = ap (λ (v : CandidatesValue). v.begun) c.self.view_is ∙ same in
    let on =
    on-one part c.self.inside.terrain c.self.inside.starts.items c.self.inside.begun c.self.inside.graph.room c.self.inside.graph.nodes c.self.invariant index begun_is
    c.in-One.over c.in-One.is in
    let inside : c.args.node < length c.self.inside.graph.nodes = subst (λ (v : CandidatesValue). c.args.node < length v.nodes) (sym c.self.view_is) c.requires.node in
    (search rules, (search rules, (inside, (part, index, on))))

pub invariant_of-self-in-One : goal.invariant_of-self-in-One
invariant_of-self-in-One c =
    let part : GridList = record { problem = c.self.inside.job.now; bound = c.self.inside.bound; sequences = c.self.inside.sequences.items } in
    let (index, same) = c.requires.begun in
    let begun_is : c.self.inside.begun ≡ Some index = ap (λ (v : CandidatesValue). v.begun) c.self.view_is ∙ same in
    let on =
    on-one part c.self.inside.terrain c.self.inside.starts.items c.self.inside.begun c.self.inside.graph.room c.self.inside.graph.nodes c.self.invariant index begun_is
    c.in-One.over c.in-One.is in
    let later = c.expand_over.ensures.on part index on in
    kept-grown part c.self.inside.terrain (One c.expand_over.new.terrain) c.self.inside.starts.items c.self.inside.begun c.self.inside.graph.room c.expand_over.new.graph.room
    c.self.inside.graph.nodes c.expand_over.new.graph.nodes c.self.invariant index begun_is later.terrain_is later.room_is later.begun_is

pub expand_over-requires-in-Four : goal.expand_over-requires-in-Four
expand_over-requires-in-Four c =
    let part : GridList = record { problem = c.self.inside.job.now; bound = c.self.inside.bound; sequences = c.self.inside.sequences.items } in
    let (index, same) = c.requires.begun in
    let begun_is : c.self.inside.begun ≡ Some index = ap (λ (v : CandidatesValue). v.begun) c.self.view_is ∙ same in
    let on =
    on-four part c.self.inside.terrain c.self.inside.starts.items c.self.inside.begun c.self.inside.graph.room c.self.inside.graph.nodes c.self.invariant index begun_is
    c.in-Four.over c.in-Four.is in
    let inside : c.args.node < length c.self.inside.graph.nodes = subst (λ (v : CandidatesValue). c.args.node < length v.nodes) (sym c.self.view_is) c.requires.node in
    (search rules, (search rules, (inside, (part, index, on))))

pub invariant_of-self-in-Four : goal.invariant_of-self-in-Four
invariant_of-self-in-Four c =
    let part : GridList = record { problem = c.self.inside.job.now; bound = c.self.inside.bound; sequences = c.self.inside.sequences.items } in
    let (index, same) = c.requires.begun in
    let begun_is : c.self.inside.begun ≡ Some index = ap (λ (v : CandidatesValue). v.begun) c.self.view_is ∙ same in
    let on =
    on-four part c.self.inside.terrain c.self.inside.starts.items c.self.inside.begun c.self.inside.graph.room c.self.inside.graph.nodes c.self.invariant index begun_is
    c.in-Four.over c.in-Four.is in
    let later = c.expand_over-in-Four.ensures.on part index on in
    kept-grown part c.self.inside.terrain (Four c.expand_over-in-Four.new.terrain) c.self.inside.starts.items c.self.inside.begun c.self.inside.graph.room c.expand_over-in-Four.new.graph.room
    c.self.inside.graph.nodes c.expand_over-in-Four.new.graph.nodes c.self.invariant index begun_is later.terrain_is later.room_is later.begun_is

pub expand_over-requires-in-Wide : goal.expand_over-requires-in-Wide
expand_over-requires-in-Wide c =
    let part : GridList = record { problem = c.self.inside.job.now; bound = c.self.inside.bound; sequences = c.self.inside.sequences.items } in
    let (index, same) = c.requires.begun in
    let begun_is : c.self.inside.begun ≡ Some index = ap (λ (v : CandidatesValue). v.begun) c.self.view_is ∙ same in
    let on =
    on-wide part c.self.inside.terrain c.self.inside.starts.items c.self.inside.begun c.self.inside.graph.room c.self.inside.graph.nodes c.self.invariant index begun_is
    c.in-Wide.over c.in-Wide.is in
    let inside : c.args.node < length c.self.inside.graph.nodes = subst (λ (v : CandidatesValue). c.args.node < length v.nodes) (sym c.self.view_is) c.requires.node in
    (search rules, (search rules, (inside, (part, index, on))))

pub invariant_of-self-in-Wide : goal.invariant_of-self-in-Wide
invariant_of-self-in-Wide c =
    let part : GridList = record { problem = c.self.inside.job.now; bound = c.self.inside.bound; sequences = c.self.inside.sequences.items } in
    let (index, same) = c.requires.begun in
    let begun_is : c.self.inside.begun ≡ Some index = ap (λ (v : CandidatesValue). v.begun) c.self.view_is ∙ same in
    let on =
    on-wide part c.self.inside.terrain c.self.inside.starts.items c.self.inside.begun c.self.inside.graph.room c.self.inside.graph.nodes c.self.invariant index begun_is
    c.in-Wide.over c.in-Wide.is in
    let later = c.expand_over-in-Wide.ensures.on part index on in
    kept-grown part c.self.inside.terrain (Wide c.expand_over-in-Wide.new.terrain) c.self.inside.starts.items c.self.inside.begun c.self.inside.graph.room c.expand_over-in-Wide.new.graph.room
    c.self.inside.graph.nodes c.expand_over-in-Wide.new.graph.nodes c.self.invariant index begun_is later.terrain_is later.room_is later.begun_is

pub returns-in-Unknown-clause-grows : goal.returns-in-Unknown-clause-grows
returns-in-Unknown-clause-grows c =
    subst (λ (v : CandidatesValue). Grows v.nodes c.self.inside.graph.nodes) c.self.view_is (grows-same c.self.inside.graph.nodes)
