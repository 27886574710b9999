use Rattle.std.proofs.Common.{◌∷◌, [], ◌++◌, ◌∙◌, ap, sym, arith}
use Rattle.turn_lock.proofs.Ends.{opens_with}
use Rattle.turn_lock.proofs.lock.TurnLock.new.Goals as goal

pub new-requires : goal.new-requires
new-requires g c =
    let same = c.of.ensures in
    opens_with _ _ _ _ _ (c.in_ok-push.ensures.items ∙ (ap (λ l. l ++ c.args.value ∷ []) c.in_ok-slots.ensures.items ∙ ap (λ v. v ∷ []) (sym same)))
    (ap g.T.Kept.history_of same ∙ c.requires.no_history) (omega arith)
