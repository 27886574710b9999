use Rattle.std.proofs.Common.{◌≡◌, ℕ, Some, true, List, ◌++◌, length, refl, sym, subst, arith}
use Rattle.std.specs.List.{slice_get, slice_set}
use Rattle.std.proofs.lemmas.Option.{slice_get_read}
use Rattle.place_walk.specs.declared.visit.Visit.{Visit}
use Rattle.place_walk.specs.Ways.{with_first}
use Rattle.place_walk.proofs.GroupLemmas.{set-marked}
use Rattle.place_walk.proofs.walking.mark_first.Goals as goal

pub returns-then-begun-len : goal.returns-then-begun-len
returns-then-begun-len c before here cut long =
    let visit : Visit = c.index_mut.result.now in
    let mark : Visit = record { place = visit.place; kind = visit.kind; action = visit.action; first = true } in
    let there : slice_get c.args.visits.now.items c.args.begun ≡ Some visit =
    slice_get_read c.args.visits.now.items (length c.args.visits.now.items) c.args.begun visit refl (omega (arith, c.len.ensures, c.if-begun-len.true)) c.index_mut.ensures.value in
    let at_first : slice_get (before ++ here) (length before) ≡ Some visit =
    subst (λ (k : ℕ). slice_get (before ++ here) k ≡ Some visit) (sym long) (subst (λ (vs : List Visit). slice_get vs c.args.begun ≡ Some visit) cut there) in
    subst (λ (vs : List Visit). slice_set vs c.args.begun mark ≡ before ++ with_first here) (sym cut)
    (subst (λ (k : ℕ). slice_set (before ++ here) k mark ≡ before ++ with_first here) long (set-marked before here visit at_first))
