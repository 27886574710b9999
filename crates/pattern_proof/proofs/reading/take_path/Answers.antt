use Rattle.std.proofs.Common.{inr, List, true≢false, refl, sym, ap, ◌∙◌, subst}
use Rattle.std.specs.Option.{option_map}
use Rattle.fst_compile.specs.declared.edge.State.{State}
use Rattle.pattern_proof.specs.Reading.{numbers_of}
use Rattle.pattern_proof.specs.Standing.{MayBeCited}
use Rattle.pattern_proof.specs.Taking.{open_row_of, standing_of}
use Rattle.pattern_proof.proofs.JudgedLemmas.{refuse-path, path-alone}
use Rattle.pattern_proof.proofs.reading.take_path.Goals as goal

pub returns-in_default-clause-refused : goal.returns-in_default-clause-refused
returns-in_default-clause-refused c =
    let none = rw c.in_default.is at c.in_ok-place.ensures in
    inr (
      c.args.number,
      refl,
      (λ known. refuse-path c.args.check.now.job.now c.args.check.now.names.now (standing_of c.args.check.now) c.args.number c.args.text.now c.requires.path
          (λ above path is says may. none above.row path says may.good)),
    )

pub returns-then-not-is_good-clause-refused : goal.returns-then-not-is_good-clause-refused
returns-then-not-is_good-clause-refused c =
    let said = rw c.in-Some.is at c.in_ok-place.ensures in
    let held = sym c.take.ensures.value ∙ c.in-Some-take.is in
    inr (
      c.args.number,
      refl,
      (λ known. refuse-path c.args.check.now.job.now c.args.check.now.names.now (standing_of c.args.check.now) c.args.number c.args.text.now c.requires.path
          (path-alone c.args.check.now.job.now c.args.check.now.names.now (standing_of c.args.check.now) c.args.number c.args.text.now
          (open_row_of c.in-Some-take.above) (ap (option_map open_row_of) held)
          (record { place = c.in-Some.place; states = numbers_of c.path_said.new.states.items }) said
          (λ may. true≢false (sym (c.is_good.ensures.good.1
          (subst (λ (s : List State). MayBeCited c.args.check.now.job.now (open_row_of c.in-Some-take.above) (record { place = c.in-Some.place; states = numbers_of s })) (sym c.as_slice.ensures.value) may))
          ∙ c.if-not-is_good.true)))),
    )
