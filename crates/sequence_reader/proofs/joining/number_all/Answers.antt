use Rattle.std.proofs.Common.{◌≡◌, Ok, true, ◌++◌, [], List, ℕ, length, append_assoc, ap, sym, ◌∙◌, subst, arith, refl}
use Rattle.std.specs.List.{AllZip}
use Rattle.std.proofs.lemmas.List.{append-nil, nil_from_length}
use Rattle.std.specs.Vec.Iter.{into_iter_items}
use Rattle.text_ports.specs.Scanning.{lines_behind}
use Rattle.sequence_reader.specs.declared.reading.Reading.{Reading}
use Rattle.sequence_reader.specs.Taking.{behind, IsTaken, all_waiting, with_waiting}
use Rattle.sequence_reader.proofs.TakingLemmas.{IsTaken-same}
use Rattle.sequence_reader.proofs.JoiningLemmas.{pieces-none, pieces-more}
use Rattle.sequence_reader.proofs.joining.number_all.Goals as goal

pub readings-init : goal.readings-init
readings-init c =
    let gives = c.into_iter-reading-iterator.ensures in
    let count = c.sequences-count.ensures.count in
    let none = ap length (ap all_waiting c.requires.none) in
    record {
      seen = search;
      count = search;
      few = c.sequences-count.ensures.most;
      as_many = omega (arith, count, none);
      joined = λ known earlier texts weighted taken.
          pieces-none known c.args.all.now.names weighted earlier (with_waiting c.args.all.now c.args.waiting.now.items)
          (IsTaken-same known weighted earlier c.args.all.now (with_waiting c.args.all.now c.args.waiting.now.items) refl (ap (λ w. c.args.all.now.db ++ all_waiting w) c.requires.none ∙ append-nil c.args.all.now.db) refl taken) texts;
      kept = ([], sym (append-nil c.args.all.now.names));
      same_db = refl;
      same = refl;
    }

pub returns-then-not-branch-clause-refused : goal.returns-then-not-branch-clause-refused
returns-then-not-branch-clause-refused c is =
    c.take_back-then-not-branch.ensures.back is c.args.all.now.names (c.readings.invariant.kept.0 ++ c.number.ensures.kept.0) (sym c.count-known.ensures.count)
    (c.number.ensures.kept.1 ∙ ap (λ (w : List (List ℕ)). w ++ c.number.ensures.kept.0) c.readings.invariant.kept.1 ∙ append_assoc c.args.all.now.names c.readings.invariant.kept.0 c.number.ensures.kept.0)

pub readings-preserved : goal.readings-preserved
readings-preserved c =
    let steps = c.in-Some.ensures.steps in
    let seen = c.readings.yielded in
    let done : c.number.result ≡ Ok true = c.in_ok-number.was ∙ ap Ok c.if-not-branch.false in
    let more = c.sequences-more.ensures.count in
    let room = c.if-more-count.false in
    let few = c.readings.invariant.few in
    let before = c.readings.invariant.as_many in
    let after = c.number.ensures.as_many done in
    record {
      seen = rw append_assoc (ap (λ xs. seen ++ xs) (sym steps.0) ∙ c.readings.invariant.seen);
      count = omega (arith, steps.1, c.readings.invariant.count, ap length steps.0);
      few = omega (arith, room, few);
      as_many = omega (arith, more, before, after);
      joined = λ known earlier texts weighted taken.
          pieces-more known c.args.all.now.names weighted earlier seen (with_waiting c.readings.all c.readings.waiting.items) c.in-Some.reading (with_waiting c.number.new.all c.number.new.waiting.items)
          (λ texts zip. c.readings.invariant.joined known earlier texts weighted taken zip)
          (λ before lines so_far own. c.number.ensures.joined done known c.args.all.now.names before lines c.readings.invariant.kept.0 weighted (sym c.count-known.ensures.count) c.readings.invariant.kept.1 so_far own) texts;
      kept = (
        c.readings.invariant.kept.0 ++ c.number.ensures.kept.0,
        c.number.ensures.kept.1 ∙ ap (λ (w : List (List ℕ)). w ++ c.number.ensures.kept.0) c.readings.invariant.kept.1
            ∙ append_assoc c.args.all.now.names c.readings.invariant.kept.0 c.number.ensures.kept.0,
      );
      same_db = c.number.ensures.same_db ∙ c.readings.invariant.same_db;
      same = c.number.ensures.same ∙ c.readings.invariant.same;
    }

pub returns-clause-joined : goal.returns-clause-joined
returns-clause-joined c is known earlier texts weighted taken zip =
    let none : into_iter_items c.readings.reading-iterator ≡ [] =
    nil_from_length (into_iter_items c.readings.reading-iterator) (sym c.readings.invariant.count ∙ c.in-None.ensures.steps.0) in
    let whole : c.readings.yielded ≡ c.args.readings.items =
    sym (append-nil c.readings.yielded) ∙ ap (λ (w : List Reading). c.readings.yielded ++ w) (sym none) ∙ c.readings.invariant.seen in
    c.readings.invariant.joined known earlier texts weighted taken
    (subst (λ (w : List Reading). AllZip (λ text reading. IsTaken c.args.all.now.names weighted (lines_behind text) (behind c.args.all.now.names reading)) texts w) (sym whole) zip)

pub returns-then-not-branch-clause-kept : goal.returns-then-not-branch-clause-kept
returns-then-not-branch-clause-kept c =
    c.take_back-then-not-branch.ensures.kept c.args.all.now.names (c.readings.invariant.kept.0 ++ c.number.ensures.kept.0) (sym c.count-known.ensures.count)
    (c.number.ensures.kept.1 ∙ ap (λ (w : List (List ℕ)). w ++ c.number.ensures.kept.0) c.readings.invariant.kept.1 ∙ append_assoc c.args.all.now.names c.readings.invariant.kept.0 c.number.ensures.kept.0)
