use Rattle.std.proofs.Common.{ℕ, ◌⊎◌, ◌↔◌, Option, Some, [], ◌∷◌, IsTrue, sym, subst}
use Rattle.std.specs.Result.{OnOk}
use Rattle.std.proofs.lemmas.Result.{on_ok_weaker}
use Rattle.state_bits.specs.Members.{Has}
use Rattle.place_walk.specs.declared.visit.Visit.{Visit}
use Rattle.stand_sums.specs.declared.aim.Aim.{Aim}
use Rattle.stand_sums.specs.Writings.{opens, ends}
use Rattle.mask_sums.specs.Kept.{lacks, free, OpensIn, EndsIn, HasStands}
use Rattle.mask_sums.proofs.SetLemmas.{union-with, opens-set, ends-set, stands-visit}
use Rattle.mask_sums.proofs.counting.read_visit.Goals as goal

pub returns-in-None-clause-opened : goal.returns-in-None-clause-opened
returns-in-None-clause-opened g c =
    let ranks = g.T.Outputs.ranks c.args.table.now in
    let visit : Visit = c.args.visit in
    let mask : ℕ = c.mask-mask.result.now in
    let aim : Aim = free in
    subst (λ (need : Option ℕ). OnOk c.read_seen.result ((rank : ℕ) → Has c.read_seen.new.opened rank ↔ (Has c.args.opened.now rank ⊎ IsTrue (opens ranks (lacks need) rank visit)))) (sym c.in-None.is)
    (on_ok_weaker c.read_seen.result
    (λ union rank. union-with c.args.opened.now c.read_seen.new.opened rank (OpensIn aim visit.action mask rank) (IsTrue (opens ranks aim rank visit)) (union rank) (opens-set ranks aim visit mask c.mask-mask.ensures rank))
    c.read_seen.ensures.opened)

pub returns-in-None-clause-ended : goal.returns-in-None-clause-ended
returns-in-None-clause-ended g c =
    let ranks = g.T.Outputs.ranks c.args.table.now in
    let visit : Visit = c.args.visit in
    let mask : ℕ = c.mask-mask.result.now in
    let aim : Aim = free in
    subst (λ (need : Option ℕ). OnOk c.read_seen.result ((rank : ℕ) → Has c.read_seen.new.ended rank ↔ (Has c.args.ended.now rank ⊎ IsTrue (ends ranks (lacks need) rank visit)))) (sym c.in-None.is)
    (on_ok_weaker c.read_seen.result
    (λ union rank. union-with c.args.ended.now c.read_seen.new.ended rank (EndsIn aim visit.action mask rank) (IsTrue (ends ranks aim rank visit)) (union rank) (ends-set ranks aim visit mask c.mask-mask.ensures rank))
    c.read_seen.ensures.ended)

pub returns-in-None-clause-stands : goal.returns-in-None-clause-stands
returns-in-None-clause-stands g c =
    let ranks = g.T.Outputs.ranks c.args.table.now in
    subst (λ (need : Option ℕ). OnOk c.read_seen.result (HasStands ranks (lacks need) (c.args.visit ∷ []) c.args.stands.now c.read_seen.new.stands)) (sym c.in-None.is)
    (on_ok_weaker c.read_seen.result (stands-visit ranks free c.args.visit c.mask-mask.result.now c.mask-mask.ensures c.args.stands.now c.read_seen.new.stands) c.read_seen.ensures.stands)

pub returns-in-Some-clause-opened : goal.returns-in-Some-clause-opened
returns-in-Some-clause-opened g c =
    let ranks = g.T.Outputs.ranks c.args.table.now in
    let visit : Visit = c.args.visit in
    let mask : ℕ = c.mask-mask.result.now in
    let aim : Aim = lacks (Some c.in-Some.need) in
    subst (λ (need : Option ℕ). OnOk c.read_lacking.result ((rank : ℕ) → Has c.read_lacking.new.opened rank ↔ (Has c.args.opened.now rank ⊎ IsTrue (opens ranks (lacks need) rank visit)))) (sym c.in-Some.is)
    (on_ok_weaker c.read_lacking.result
    (λ union rank. union-with c.args.opened.now c.read_lacking.new.opened rank (OpensIn aim visit.action mask rank) (IsTrue (opens ranks aim rank visit)) (union rank) (opens-set ranks aim visit mask c.mask-mask.ensures rank))
    c.read_lacking.ensures.opened)

pub returns-in-Some-clause-ended : goal.returns-in-Some-clause-ended
returns-in-Some-clause-ended g c =
    let ranks = g.T.Outputs.ranks c.args.table.now in
    let visit : Visit = c.args.visit in
    let mask : ℕ = c.mask-mask.result.now in
    let aim : Aim = lacks (Some c.in-Some.need) in
    subst (λ (need : Option ℕ). OnOk c.read_lacking.result ((rank : ℕ) → Has c.read_lacking.new.ended rank ↔ (Has c.args.ended.now rank ⊎ IsTrue (ends ranks (lacks need) rank visit)))) (sym c.in-Some.is)
    (on_ok_weaker c.read_lacking.result
    (λ union rank. union-with c.args.ended.now c.read_lacking.new.ended rank (EndsIn aim visit.action mask rank) (IsTrue (ends ranks aim rank visit)) (union rank) (ends-set ranks aim visit mask c.mask-mask.ensures rank))
    c.read_lacking.ensures.ended)

pub returns-in-Some-clause-stands : goal.returns-in-Some-clause-stands
returns-in-Some-clause-stands g c =
    let ranks = g.T.Outputs.ranks c.args.table.now in
    subst (λ (need : Option ℕ). OnOk c.read_lacking.result (HasStands ranks (lacks need) (c.args.visit ∷ []) c.args.stands.now c.read_lacking.new.stands)) (sym c.in-Some.is)
    (on_ok_weaker c.read_lacking.result (stands-visit ranks (lacks (Some c.in-Some.need)) c.args.visit c.mask-mask.result.now c.mask-mask.ensures c.args.stands.now c.read_lacking.new.stands) c.read_lacking.ensures.stands)
