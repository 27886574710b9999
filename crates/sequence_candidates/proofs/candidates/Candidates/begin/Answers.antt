use Rattle.std.proofs.Common.{◌≡◌, ℕ, ◌<◌, true, Some, length, refl, sym, ap, ◌∙◌, subst, arith, rules}
use Rattle.std.specs.List.{slice_get}
use Rattle.std.proofs.lemmas.Option.{slice_get-get_or}
use Rattle.sequence_grids.specs.Grids.{GridList}
use Rattle.sequence_candidates.specs.Candidates.{CandidatesValue}
use Rattle.sequence_candidates.proofs.PlaceLemmas.{marked-one}
use Rattle.sequence_candidates.proofs.KeptLemmas.{kept-left, kept-begun}
use Rattle.sequence_candidates.proofs.candidates.Candidates.begin.Goals as goal

pub index-requires : goal.index-requires
index-requires c =
    let known : c.args.index < length c.self.inside.sequences.items =
    subst (λ (v : CandidatesValue). c.args.index < length v.part.sequences) (sym c.self.view_is) c.requires in
    let inside : c.args.index < length c.self.inside.starts.items = omega (arith, known, c.self.invariant.starts_are.long) in
    search rules

pub begin-requires : goal.begin-requires
begin-requires c = marked-one (record { place = c.index.result.now; state = 0; first = true }) refl

pub invariant_of-self : goal.invariant_of-self
invariant_of-self c =
    let part : GridList = record { problem = c.self.inside.job.now; bound = c.self.inside.bound; sequences = c.self.inside.sequences.items } in
    kept-left part c.self.inside.terrain c.self.inside.starts.items c.self.inside.begun c.self.inside.graph.room c.begin.new.self.room
    c.self.inside.graph.nodes c.begin.new.self.nodes c.self.invariant c.begin.ensures.room

pub invariant_of-self-2 : goal.invariant_of-self-2
invariant_of-self-2 c =
    let part : GridList = record { problem = c.self.inside.job.now; bound = c.self.inside.bound; sequences = c.self.inside.sequences.items } in
    let known : c.args.index < length c.self.inside.sequences.items =
    subst (λ (v : CandidatesValue). c.args.index < length v.part.sequences) (sym c.self.view_is) c.requires in
    let inside : c.args.index < length c.self.inside.starts.items = omega (arith, known, c.self.invariant.starts_are.long) in
    let at : slice_get c.self.inside.starts.items c.args.index ≡ Some c.index.result.now =
    slice_get-get_or c.self.inside.starts.items c.args.index c.index.result.now inside ∙ ap (λ (n : ℕ). Some n) (sym c.index.ensures) in
    kept-begun part c.self.inside.terrain c.self.inside.starts.items c.self.inside.begun c.self.inside.graph.room c.begin.new.self.room
    c.self.inside.graph.nodes c.self.invariant c.begin.ensures.room c.args.index known c.index.result.now at c.seen_first.result c.seen_first.ensures
    c.begin.new.self.nodes c.in_ok-begin.ensures.nodes c.begin.ensures.graph

pub returns-clause-root : goal.returns-clause-root
returns-clause-root c = (_, c.in_ok-begin.ensures.nodes)
