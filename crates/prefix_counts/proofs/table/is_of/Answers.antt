use Rattle.std.proofs.Common.{◌∷◌, [], ℕ, List, sym, ap, ◌∙◌}
use Rattle.std.proofs.lemmas.Bool.Decides.{Decides-eqb}
use Rattle.mine_model.proofs.ElementLemmas.{first-same}
use Rattle.prefix_counts.proofs.TableLemmas.{pair_of_slot}
use Rattle.prefix_counts.proofs.table.is_of.Goals as goal

pub returns-then-slot-key : goal.returns-then-slot-key
returns-then-slot-key c =
    let pair = pair_of_slot c.args.nodes.now c.args.slot c.requires.slot c.requires.taken in
    let tells = Decides-eqb c.args.slot.rank c.args.key.rank in
    (λ yes. pair ∙ (λ j. c.if-slot-key.true j ∷ tells.0 yes j ∷ []), λ same. tells.1 (first-same c.args.slot.rank c.args.key.rank [] [] (ap tail_of (sym pair ∙ same))))
  where
    tail_of : List ℕ → List ℕ
    tail_of [] = []
    tail_of (first ∷ rest) = rest
