use Rattle.std.proofs.Common.{◌≡◌, ◌<◌, ◌++◌, ◌∷◌, ◌∙◌, [], ℕ, List, length, take, get_or, sum_by, sym, ap, subst, arith, refl}
use Rattle.std.proofs.lemmas.List.{take_all, length-map}
use Rattle.mine_model.specs.declared.item.Item.{Item}
use Rattle.mine_model.specs.Database.{sequence_at}
use Rattle.mine_model.specs.Support.{Sequence}
use Rattle.mining_job.specs.Problems.{data_of, items_of}
use Rattle.mining_job.specs.Parts.{pivot_of}
use Rattle.sequence_grids.specs.Grids.{GridList, items_at}
use Rattle.automaton_model.specs.Groups.{part_of}
use Rattle.cand_automaton.specs.Loads.{AreLoadsOf, AreLoadedWith}
use Rattle.cand_automaton.proofs.LoadLemmas.{loads-none, part-next, part-room}
use Rattle.cand_automaton.proofs.SeedLemmas.{seed-at, seed-few, seed-weight}
use Rattle.cand_automaton.proofs.parts.load_all.Goals as goal

pub overflow_cast-index : goal.overflow_cast-index
overflow_cast-index c =
    let value = c.as_slice-sequences.ensures.value in
    let limits = rw c.db-db.ensures.sequences at c.sequences-sequences.ensures.limits in
    let few = seed-few c.args.job.now c.args.seed.now c.requires.complete limits
    (omega (arith, c.sequences-sequences.ensures.count, c.sequences-sequences.ensures.most, ap length c.db-db.ensures.sequences)) in
    omega (arith, few, c.loop-index-test.true, ap length value)

pub weight-weight-requires : goal.weight-weight-requires
weight-weight-requires c =
    let items : List ℕ = c.args.seed.now.sequences.items in
    let value = c.as_slice-sequences.ensures.value in
    let inside : c.loop-index.index < length items = omega (arith, c.loop-index-test.true, ap length value) in
    let at = seed-at c.args.job.now c.args.seed.now c.requires.complete c.loop-index.index inside in
    omega (arith, at, ap (λ (l : List ℕ). get_or l c.loop-index.index 0) value, ap length c.db-db.ensures.sequences)

pub load-requires-clause-index : goal.load-requires-clause-index
load-requires-clause-index c =
    let value = c.as_slice-sequences.ensures.value in
    omega (arith, c.loop-index-test.true, ap length value, ap (λ (p : GridList). length p.sequences) (c.loop-index.invariant.part ∙ c.requires.part))

pub load-requires-clause-few : goal.load-requires-clause-few
load-requires-clause-few c =
    let d = data_of c.args.job.now in
    let items : List ℕ = c.args.seed.now.sequences.items in
    let value = c.as_slice-sequences.ensures.value in
    let number : ℕ = get_or items c.loop-index.index 0 in
    let inside : c.loop-index.index < length items = omega (arith, c.loop-index-test.true, ap length value) in
    let limits = rw c.db-db.ensures.sequences at c.sequences-sequences.ensures.limits in
    let most = seed-weight c.args.job.now c.args.seed.now c.requires.complete limits
    (omega (arith, c.sequences-sequences.ensures.count, c.sequences-sequences.ensures.most, ap length c.db-db.ensures.sequences)) in
    let room = part-room d items c.loop-index.index number 4194304000000000 inside refl most in
    let weight : c.weight-weight.result ≡ (sequence_at d.sequences number).weight =
    c.weight-weight.ensures.weight ∙ ap (λ (l : List (Sequence Item)). (sequence_at l (get_or c.as_slice-sequences.result.now c.loop-index.index 0)).weight) c.db-db.ensures.sequences
    ∙ ap (λ (l : List ℕ). (sequence_at d.sequences (get_or l c.loop-index.index 0)).weight) value in
    omega (arith, room, weight, c.loop-index.invariant.loads.sum)

pub loop-index-init : goal.loop-index-init
loop-index-init c =
    let job = c.args.job.now in
    let states = c.args.room.now.registry in
    record {
      part = refl;
      kept = refl;
      registry = c.len-states.ensures.registry;
      loads = subst (AreLoadsOf (data_of job) job.ranking.order (pivot_of c.args.seed.now.pivot) [] states) (sym c.requires.empty)
          (loads-none (data_of job) job.ranking.order (pivot_of c.args.seed.now.pivot) states);
    }

pub loop-index-preserved : goal.loop-index-preserved
loop-index-preserved c =
    let job = c.args.job.now in
    let seed = c.args.seed.now in
    let d = data_of job in
    let items : List ℕ = seed.sequences.items in
    let index : ℕ = c.loop-index.index in
    let number : ℕ = get_or items index 0 in
    let value = c.as_slice-sequences.ensures.value in
    let inside : index < length items = omega (arith, c.loop-index-test.true, ap length value) in
    let part = c.loop-index.invariant.part ∙ c.requires.part in
    let weight : c.weight-weight.result ≡ (sequence_at d.sequences number).weight =
    c.weight-weight.ensures.weight ∙ ap (λ (l : List (Sequence Item)). (sequence_at l (get_or c.as_slice-sequences.result.now index 0)).weight) c.db-db.ensures.sequences
    ∙ ap (λ (l : List ℕ). (sequence_at d.sequences (get_or l index 0)).weight) value in
    let with = subst (λ (p : GridList). AreLoadedWith p (record { items = items_at p index; weight = c.weight-weight.result }) c.loop-index.room.registry c.loop-index.room.loads
    c.load.new.room.registry c.load.new.room.loads) part c.in_ok-load.ensures.loads in
    let before : List (Sequence Item) = take index (part_of d items) in
    let loaded = with seed.pivot before c.requires.complete.least refl c.loop-index.invariant.loads in
    let same : Sequence Item → Sequence Item → Type 0 = λ (one other : Sequence Item). one ≡ other in
    let one : same (record { items = items_of job number; weight = c.weight-weight.result }) (sequence_at d.sequences number) = (λ k. record { items = items_of job number; weight = weight k }) in
    record {
      part = c.load.ensures.part ∙ c.loop-index.invariant.part;
      kept = c.load.ensures.kept ∙ c.loop-index.invariant.kept;
      registry = c.in_ok-load.ensures.registry;
      loads = subst (λ (l : List (Sequence Item)). AreLoadsOf d job.ranking.order (pivot_of seed.pivot) l c.load.new.room.registry c.load.new.room.loads)
          (ap (λ (s : Sequence Item). before ++ s ∷ []) one ∙ sym (part-next d items index number inside refl)) loaded;
    }

pub returns-clause-loads : goal.returns-clause-loads
returns-clause-loads c =
    let job = c.args.job.now in
    let d = data_of job in
    let items : List ℕ = c.args.seed.now.sequences.items in
    let value = c.as_slice-sequences.ensures.value in
    let at : ℕ → Sequence Item = λ i. sequence_at d.sequences i in
    let whole : take c.loop-index.index (part_of d items) ≡ part_of d items =
    take_all c.loop-index.index (part_of d items) (omega (arith, c.loop-index-test.false, ap length value, length-map items at)) in
    subst (λ (l : List (Sequence Item)). AreLoadsOf d job.ranking.order (pivot_of c.args.seed.now.pivot) l c.loop-index.room.registry c.loop-index.room.loads) whole c.loop-index.invariant.loads

pub returns-clause-few : goal.returns-clause-few
returns-clause-few c =
    let d = data_of c.args.job.now in
    let items : List ℕ = c.args.seed.now.sequences.items in
    let value = c.as_slice-sequences.ensures.value in
    let at : ℕ → Sequence Item = λ i. sequence_at d.sequences i in
    let limits = rw c.db-db.ensures.sequences at c.sequences-sequences.ensures.limits in
    let most = seed-weight c.args.job.now c.args.seed.now c.requires.complete limits
    (omega (arith, c.sequences-sequences.ensures.count, c.sequences-sequences.ensures.most, ap length c.db-db.ensures.sequences)) in
    let whole : take c.loop-index.index (part_of d items) ≡ part_of d items =
    take_all c.loop-index.index (part_of d items) (omega (arith, c.loop-index-test.false, ap length value, length-map items at)) in
    omega (arith, most, c.loop-index.invariant.loads.sum, ap (sum_by (λ (s : Sequence Item). s.weight)) whole)
