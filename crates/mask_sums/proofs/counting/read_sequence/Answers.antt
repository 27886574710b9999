use Rattle.std.proofs.Common.{◌≡◌, ◌∙◌, ◌<◌, ◌≤◌, ℕ, true, false, true≢false, Some, List, length, get_or, inl, inr, sym, subst, arith}
use Rattle.std.specs.List.{slice_get}
use Rattle.std.proofs.lemmas.Bool.{cases_eq, eq-eqb}
use Rattle.std.proofs.lemmas.Option.{slice_get_within}
use Rattle.place_walk.specs.declared.visit.Visit.{Visit}
use Rattle.stand_sums.specs.Writings.{opens, ends}
use Rattle.stand_sums.specs.Kept.{IsSequenceEnd}
use Rattle.stand_sums.proofs.PartLemmas.{blank}
use Rattle.mask_sums.specs.Kept.{lacks}
use Rattle.mask_sums.proofs.RunLemmas.{set-start, stands-start, set-one_more, stands-one_more, mark-at, not-true, not-false}
use Rattle.mask_sums.proofs.counting.read_sequence.Goals.{then-visits-test+else-not-visits-end, then-end-from, else-end-from, else-visits-test}
use Rattle.mask_sums.proofs.counting.read_sequence.Goals as goal

pub visits-init : goal.visits-init
visits-init g c =
    let ranks = g.T.Outputs.ranks c.args.table.now in
    let some = c.requires.some in
    record {
      forward = omega arith;
      within = omega arith;
      here = λ k visit past before at. absurd (omega arith);
      opened = set-start (opens ranks (lacks c.args.lacking)) c.args.visits.now c.args.from c.new-opened.result c.new-opened.ensures;
      ended = set-start (ends ranks (lacks c.args.lacking)) c.args.visits.now c.args.from c.new-ended.result c.new-ended.ensures;
      stands = stands-start ranks (lacks c.args.lacking) c.args.visits.now c.args.from c.args.stands.now;
    }

pub visits-preserved : goal.visits-preserved
visits-preserved g c =
    let ranks = g.T.Outputs.ranks c.args.table.now in
    let visits : List Visit = c.args.visits.now in
    let from : ℕ = c.args.from in
    let end : ℕ = c.visits.end in
    let forward : from ≤ end = c.visits.invariant.forward in
    let inside : end < length visits = c.visits-test.true in
    record {
      forward = omega arith;
      within = omega arith;
      here = λ k visit past before at. elim (cases_eq k end) [
        | inl same ↦
            let at' : slice_get visits end ≡ Some visit = subst (λ (n : ℕ). slice_get visits n ≡ Some visit) same at in
            elim c.if-end-from.branch [
              | then-end-from w ↦ let start : end ≡ from = w.if-end-from.true in absurd (omega arith)
              | else-end-from w ↦ mark-at visits end visit blank false at' (not-true (get_or visits end blank).first (sym w.value-is ∙ c.if-not-visits-end.true))
            ]
        | inr other ↦ c.visits.invariant.here k visit past (omega arith) at
      ];
      opened = set-one_more visits from end blank forward inside (opens ranks (lacks c.args.lacking)) c.visits.opened c.read_visit.new.opened c.visits.invariant.opened c.in_ok-read_visit.ensures.opened;
      ended = set-one_more visits from end blank forward inside (ends ranks (lacks c.args.lacking)) c.visits.ended c.read_visit.new.ended c.visits.invariant.ended c.in_ok-read_visit.ensures.ended;
      stands = stands-one_more visits from end blank forward inside ranks (lacks c.args.lacking) c.args.stands.now c.visits.stands c.read_visit.new.stands c.visits.invariant.stands c.in_ok-read_visit.ensures.stands;
    }

pub returns-clause-read : goal.returns-clause-read
returns-clause-read g c =
    let ranks = g.T.Outputs.ranks c.args.table.now in
    let visits : List Visit = c.args.visits.now in
    let from : ℕ = c.args.from in
    let end : ℕ = c.visits.end in
    let forward : from ≤ end = c.visits.invariant.forward in
    let some : from < length visits = c.requires.some in
    let ends_there : IsSequenceEnd visits from end = elim c.visits-test.branch [
      | then-visits-test+else-not-visits-end w ↦ elim w.if-end-from.branch [
        | then-end-from w' ↦ absurd (true≢false (sym (eq-eqb end from w'.if-end-from.true) ∙ sym w'.value-is ∙ w.if-not-visits-end.false))
        | else-end-from w' ↦ record {
          some = let other = w'.if-end-from.false in omega arith;
          within = c.visits.invariant.within;
          here = c.visits.invariant.here;
          next = λ visit at. mark-at visits end visit blank true at (not-false (get_or visits end blank).first (sym w'.value-is ∙ w.if-not-visits-end.false));
        }
      ]
      | else-visits-test w ↦ record {
        some = let past = w.visits-test.false in omega arith;
        within = c.visits.invariant.within;
        here = c.visits.invariant.here;
        next = λ visit at. let past = w.visits-test.false in let before = slice_get_within visits end visit at in absurd (omega arith);
      }
    ] in
    record { end = ends_there; opened = c.visits.invariant.opened; ended = c.visits.invariant.ended }
