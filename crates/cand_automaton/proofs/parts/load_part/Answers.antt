use Rattle.std.proofs.Common.{◌≡◌, ◌∙◌, ◌≤◌, ◌<◌, ℕ, Option, Result, Ok, List, [], ◌∷◌, length, sym, ap, subst}
use Rattle.std.proofs.lemmas.Result.{on_ok_weaker}
use Rattle.mine_model.specs.declared.memory.NoMemory.{NoMemory}
use Rattle.cand_automaton.specs.declared.alone.Kept.{Kept}
use Rattle.cand_automaton.specs.Wholes.{IsFree, IsKept}
use Rattle.std.specs.List.{AllPairs, AllByRecursion, Contains}
use Rattle.std.specs.Prelude.{IfSome}
use Rattle.mine_model.proofs.ListLemmas.{Contains-first}
use Rattle.mining_job.specs.Problems.{Problem}
use Rattle.snapshot_project.specs.Snapshots.{bound_of}
use Rattle.cand_automaton.proofs.SeedLemmas.{seed-within, seed-inside}
use Rattle.cand_automaton.proofs.parts.load_part.Goals as goal

pub enter-requires-clause-rising : goal.enter-requires-clause-rising
enter-requires-clause-rising c = subst (AllPairs (λ low high. low < high)) (sym c.as_slice-sequences.ensures.value) c.requires.complete.rising

pub enter-requires-clause-within : goal.enter-requires-clause-within
enter-requires-clause-within c =
    subst (λ (p : Problem). AllByRecursion (λ i. i < length p.sequences) c.as_slice-sequences.result.now) (sym (c.whole_of.ensures.problem ∙ c.requires.problem))
    (subst (AllByRecursion (λ i. i < length c.args.job.now.sequences)) (sym c.as_slice-sequences.ensures.value) (seed-inside c.args.job.now c.args.seed.now c.requires.complete))

pub enter-requires-clause-least : goal.enter-requires-clause-least
enter-requires-clause-least c = c.requires.complete.least

pub enter-requires-clause-most : goal.enter-requires-clause-most
enter-requires-clause-most c =
    subst (λ (p : Problem). IfSome c.args.seed.now.pivot (λ rank. rank ≤ length p.ranking.order)) (sym (c.whole_of.ensures.problem ∙ c.requires.problem)) c.requires.complete.most

pub whole_of-requires-clause-within : goal.whole_of-requires-clause-within
whole_of-requires-clause-within c =
    subst (AllByRecursion (λ i. i < length c.args.job.now.sequences)) (sym c.as_slice-sequences.ensures.value) (seed-inside c.args.job.now c.args.seed.now c.requires.complete)

pub load_alone-requires-clause-seq : goal.load_alone-requires-clause-seq
load_alone-requires-clause-seq c =
    let alone : c.as_slice-sequences.result.now ≡ c.in-Some.seq ∷ [] =
    subst (λ (one : Option ℕ). IfSome one (λ seq. c.as_slice-sequences.result.now ≡ seq ∷ [])) c.in-Some.is c.in_ok-seq.ensures.alone in
    seed-within c.args.job.now c.args.seed.now c.requires.complete c.in-Some.seq
    (subst (λ (l : List ℕ). Contains l c.in-Some.seq) c.as_slice-sequences.ensures.value (subst (λ (l : List ℕ). Contains l c.in-Some.seq) (sym alone) (Contains-first c.in-Some.seq [])))

pub load_all-requires-clause-part : goal.load_all-requires-clause-part
load_all-requires-clause-part c =
    let whole : c.whole_of.new.candidates.part.problem ≡ c.args.job.now = c.whole_of.ensures.problem ∙ c.requires.problem in
    let problem : c.enter.new.self.part.problem ≡ c.args.job.now = c.enter.ensures.problem ∙ whole in
    let bound : c.enter.new.self.part.bound ≡ bound_of (length c.args.job.now.ranking.order) c.args.seed.now.pivot =
    c.in_ok-enter.ensures.bound ∙ ap (λ (p : Problem). bound_of (length p.ranking.order) c.args.seed.now.pivot) whole in
    let sequences : c.enter.new.self.part.sequences ≡ c.args.seed.now.sequences.items = c.in_ok-enter.ensures.sequences ∙ c.as_slice-sequences.ensures.value in
    λ i. record { problem = problem i; bound = bound i; sequences = sequences i }

pub returns-clause-kept : goal.returns-clause-kept
returns-clause-kept c =
    let value = c.load_all.new.candidates in
    let none : IsFree c.args.job.now c.whole_of.new.kept.alone = c.in_ok-seq.ensures.free (ap {B = Result (Option ℕ) NoMemory} (λ (one : Option ℕ). Ok one) c.in_default.is) in
    let kept = subst (λ (k : Kept). IsKept c.args.job.now value k.order k.alone) (sym c.load_all.ensures.kept) (none value c.whole_of.new.kept.order) in
    on_ok_weaker c.load_all.result (λ _. kept) c.load_all.ensures.registry
