use Rattle.mine_model.proofs.hierarchy.Hierarchy.is_above.Goals as goal

pub returns : goal.returns
returns c =
    let same = c.ancestors.ensures.ancestors c.args.w in
    (λ yes. same.0 (c.holds.ensures.0 yes), λ up. c.holds.ensures.1 (same.1 up))
