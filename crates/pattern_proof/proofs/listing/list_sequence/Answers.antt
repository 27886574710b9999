use Rattle.std.proofs.Common.{◌≡◌, ℕ, inl, inr, List, get_or, sym, ap, ◌∙◌, subst, arith, Contains}
use Rattle.std.proofs.lemmas.Bool.{cases_eq}
use Rattle.std.proofs.lemmas.List.{get_or_default}
use Rattle.mine_model.specs.declared.item.Item.{Item}
use Rattle.mine_model.specs.Database.{sequence_at}
use Rattle.mine_model.specs.Hierarchy.{IsAncestor}
use Rattle.mine_model.specs.Support.{Sequence}
use Rattle.pattern_proof.specs.Listing.{fronts_of}
use Rattle.pattern_proof.proofs.ListingLemmas.{listed-all}
use Rattle.pattern_proof.proofs.listing.list_sequence.Goals as goal

abbrev none : Item
none = record { 0 = 0 }

pub loop-t-preserved : goal.loop-t-preserved
loop-t-preserved c =
    let items : List Item = c.sequence-t-items.result.now in
    let i : ℕ = c.loop-t.t-index in
    record {
      listed = c.in_ok-list_under.ensures.listed;
      first = λ k d w less inside above is. elim (cases_eq k i) [
        | inl same ↦
            (let there : get_or items k d ≡ get_or items i none = get_or_default items k d none inside ∙ ap (λ n. get_or items n none) same in
            c.in_ok-list_under.ensures.first w (subst (IsAncestor c.args.job.now.hierarchy.links w) there above) is)
        | inr apart ↦ c.in_ok-list_under.ensures.kept w (c.loop-t.invariant.first k d w (omega (arith, less, apart)) inside above is)
      ];
    }

pub returns : goal.returns
returns c =
    let last = c.loop-t-test.false in
    let items = c.sequence-t-items.ensures.items ∙ ap (λ (s : List (Sequence Item)). (sequence_at s c.args.place).items) c.db.ensures.sequences in
    listed-all c.args.job.now c.args.marked.now (fronts_of c.loop-t.lister) c.args.place c.loop-t.invariant.listed
    (λ t w held above is.
    let (k, inside, at) = subst (λ l. Contains l t) (sym items) held in
    c.loop-t.invariant.first k t w (omega (arith, inside, last)) inside (subst (IsAncestor c.args.job.now.hierarchy.links w) (sym at) above) is)
