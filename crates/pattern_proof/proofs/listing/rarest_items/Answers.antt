use Rattle.std.proofs.Common.{rules, ◌≡◌, ◌≢◌, ℕ, ◌<◌, List, [], ◌∷◌, length, get_or, Some, slice_get, refl, sym, ◌∙◌, subst, arith, All, Contains}
use Rattle.std.proofs.lemmas.List.Elements.{Contains-get_or}
use Rattle.std.proofs.lemmas.Option.{slice_get_within, get_or_from_slice_get}
use Rattle.mine_model.specs.declared.item.Item.{Item}
use Rattle.mine_model.specs.declared.row.Row.{Row}
use Rattle.mine_model.specs.Ancestry.{Ancestry, item_at}
use Rattle.mining_job.specs.Problems.{Problem}
use Rattle.pattern_proof.proofs.ListingLemmas.{frequent-known, pushed}
use Rattle.pattern_proof.proofs.listing.rarest_items.Goals as goal

some-long : (items : List Item) → items ≢ [] → 0 < length items
some-long [] some = absurd (some refl)
some-long (t ∷ items) some = omega arith

pub rarest-requires-clause-some : goal.rarest-requires-clause-some
rarest-requires-clause-some c =
    let frequent = c.requires c.row-item.result (c.loop-row.row-index, c.loop-row-test.true, sym c.row-item.is) in
    subst (λ l. 0 < length l) (sym c.items.ensures) (some-long c.row-item.result.pattern frequent.not_empty)

pub rarest-requires-clause-known : goal.rarest-requires-clause-known
rarest-requires-clause-known c = λ k d inside.
    let problem : Problem = c.args.job.now in
    let row : Row = c.row-item.result in
    let frequent = c.requires row (c.loop-row.row-index, c.loop-row-test.true, sym c.row-item.is) in
    let ends = subst (λ (h : Ancestry). All (λ link. (link.child.0 < h.items) × (link.parent.0 < h.items)) h.links) c.hierarchy.ensures.hierarchy c.items-items.ensures.within in
    frequent-known problem c.hierarchy.ensures.whole ends row.pattern row.support frequent (get_or c.items.result.now k d)
    (subst (λ l. Contains l (get_or c.items.result.now k d)) c.items.ensures (Contains-get_or c.items.result.now k d inside))

pub loop-row-preserved : goal.loop-row-preserved
loop-row-preserved c =
    let problem : Problem = c.args.job.now in
    let rows : List Row = c.args.rows.now in
    let i : ℕ = c.loop-row.row-index in
    let row : Row = c.row-item.result in
    let numbers : List ℕ = c.loop-row.numbers.items in
    let held : Contains row.pattern c.rarest.result = subst (λ l. Contains l c.rarest.result) c.items.ensures c.rarest.ensures.held in
    let frequent = c.requires row (i, c.loop-row-test.true, sym c.row-item.is) in
    let ends = subst (λ (h : Ancestry). All (λ link. (link.child.0 < h.items) × (link.parent.0 < h.items)) h.links) c.hierarchy.ensures.hierarchy c.items-items.ensures.within in
    let known = frequent-known problem c.hierarchy.ensures.whole ends row.pattern row.support frequent c.rarest.result held in
    let long : length numbers ≡ i = search (rules, c.loop-row.invariant.long) in
    let len = c.push_reserved.ensures.len in
    let before = c.loop-row.invariant.long in
    record {
      long = omega (arith, len, before);
      room = c.push_reserved.ensures.capacity ∙ c.loop-row.invariant.room;
      within = pushed (λ n v. v < problem.hierarchy.items) numbers c.push_reserved.new.self.items c.rarest.result.0 i c.push_reserved.ensures.items long c.loop-row.invariant.within known;
      held = λ number other less found.
          pushed (λ n v. (other : Row) → slice_get rows n ≡ Some other → Contains other.pattern (item_at v)) numbers c.push_reserved.new.self.items c.rarest.result.0 i c.push_reserved.ensures.items long
          (λ n less other found. c.loop-row.invariant.held n other less found)
          (λ other found.
          let same : row ≡ other = c.row-item.is ∙ get_or_from_slice_get rows i other row found in
          subst (λ (r : Row). Contains r.pattern c.rarest.result) same held)
          number less other found;
    }

pub returns : goal.returns
returns c =
    let last = c.loop-row-test.false in
    let most = c.loop-row.auto.row-index-end in
    let long : length c.loop-row.numbers.items ≡ c.loop-row.row-index = search (rules, c.loop-row.invariant.long) in
    record {
      whole = omega (arith, long, last, most);
      within = λ number less. c.loop-row.invariant.within number (omega (arith, less, long));
      held = λ number row found.
          let inside = slice_get_within c.args.rows.now number row found in
          c.loop-row.invariant.held number row (omega (arith, inside, last)) found;
    }
