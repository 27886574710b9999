use Rattle.std.proofs.Common.{◌≡◌, ◌∙◌, ◌++◌, List, map, length, sym, ap, arith}
use Rattle.std.specs.List.{slice_set}
use Rattle.std.proofs.lemmas.List.{length-map, length-append}
use Rattle.place_walk.specs.declared.stand.Stand.{Stand}
use Rattle.place_walk.specs.Codes.{stand_of}
use Rattle.stand_sums.specs.Runs.{RunValue}
use Rattle.stand_sums.proofs.RunLemmas.{set-coded}
use Rattle.stand_sums.proofs.run.Run.set.Goals as goal

pub returns-then-self : goal.returns-then-self
returns-then-self c =
    let codes = c.self.inside.codes.items in
    let rest : List Stand = c.self.inside.rest.items in
    let none : length rest ≡ 0 = c.self.invariant.coded c.if-self.true in
    let long : length c.args.self.now.stands ≡ length (map stand_of codes ++ rest) = ap (λ (v : RunValue). length v.stands) (sym c.self.view_is) in
    let both = length-append (map stand_of codes) rest in
    let mapped = length-map codes stand_of in
    ap (λ (stands : List Stand). record { narrow = c.self.inside.narrow; stands = stands }) (set-coded codes rest c.args.index c.code_of.result c.args.stand (omega (arith, none, long, both, mapped, c.requires.within)) c.code_of.ensures)
    ∙ ap (λ (v : RunValue). record { narrow = v.narrow; stands = slice_set v.stands c.args.index c.args.stand }) c.self.view_is
