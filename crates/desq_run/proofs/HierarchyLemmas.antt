-- The hierarchy of rows by numbers against that of the file by names.
use Rattle.std.proofs.Common.{◌≡◌, ◌≢◌, ℕ, ◌<◌, inl, inr, List, [], ◌∷◌, map, filter, nat_le, length, refl, sym, ap, ◌∙◌, subst}
use Rattle.std.specs.List.{All, Contains}
use Rattle.std.proofs.lemmas.List.{get_or_default}
use Rattle.std.proofs.lemmas.List.Elements.{All-map, All-contains, All-from_recursion, Contains-get_or}
use Rattle.mine_model.specs.declared.item.Item.{Item}
use Rattle.mine_model.specs.declared.fault.Fault.{Fault}
use Rattle.item_hierarchy.specs.declared.hierarchy_fault.CloseFault.{CloseFault}
use Rattle.item_hierarchy.specs.declared.hierarchy_fault.CloseFault.TheVariants.{Cycle, TooManyAncestors, NoMemory}
use Rattle.item_hierarchy.specs.Faults.{fault_of_close}
use Rattle.mine_model.specs.Limits.{most_ancestors}
use Rattle.mine_model.specs.Hierarchy.{Link, PlacedLink, IsAcyclic, links_through, IsCycleLine, HasMoreAncestors}
use Rattle.mine_model.specs.Ancestry.{Ancestry, item_at}
use Rattle.mine_model.specs.Names.{name_of, HasName, AreDistinct, link_by, GrowBy}
use Rattle.mine_model.specs.Text.{lines_of}
use Rattle.mine_model.specs.Refusal.{names_of, placed_links_of, links_of as links_in, IsHierarchyRefusal}
use Rattle.mine_model.proofs.ListLemmas.{Contains-by, Contains-from, Contains-filter, AllByRecursion-from}
use Rattle.mine_model.proofs.AncestryLemmas.{Item-same}
use Rattle.mine_model.proofs.WalkLemmas.{HasCycle-more}
use Rattle.mine_model.proofs.RenamingLemmas.{placed_by, renames, IsCycleLine-by, IsCycleLine-from, HasMoreAncestors-by, HasMoreAncestors-from}
use Rattle.mine_model.proofs.NumberingLemmas.{Renames}
use Rattle.item_hierarchy.specs.declared.edges.EdgeRow.{EdgeRow}
use Rattle.item_hierarchy.specs.Edges.{link_of, links_of, placed_of, AreWithin, named_rows, IsCloseRefusal, Closes}
use Rattle.item_hierarchy.specs.Refusing.{IsReadRefusal}
use Rattle.desq_run.specs.Inputs.{IsHierarchyOf}

-- what holds of each element that is contained holds of all
pub all-of : {X : Type 0} (P : X → Type 0) (xs : List X) → ((x : X) → Contains xs x → P x) → All P xs
all-of P xs each = All-from_recursion P xs (AllByRecursion-from P xs each)

links-by : (names : List (List ℕ)) (rows : List EdgeRow) → map (λ (p : PlacedLink (List ℕ)). p.link) (named_rows names rows) ≡ map (link_by (name_of names)) (links_of rows)
links-by names [] = refl
links-by names (row ∷ rows) = ap (λ w. link_by (name_of names) (link_of row) ∷ w) (links-by names rows)

rows-by : (names : List (List ℕ)) (rows : List EdgeRow) → named_rows names rows ≡ map (placed_by (name_of names)) (placed_of rows)
rows-by names [] = refl
rows-by names (row ∷ rows) = ap (λ w. record { link = link_by (name_of names) (link_of row); line = row.line } ∷ w) (rows-by names rows)

links-placed : (rows : List EdgeRow) → map (λ (p : PlacedLink Item). p.link) (placed_of rows) ≡ links_of rows
links-placed [] = refl
links-placed (row ∷ rows) = ap (λ w. link_of row ∷ w) (links-placed rows)

-- a link up to a line is one of all
through-among : (line : ℕ) (rows : List EdgeRow) (link : Link Item) → Contains (links_through line (placed_of rows)) link
    → Contains (links_of rows) link
through-among line rows link inside =
    let (p, held, same) = Contains-from (λ (p : PlacedLink Item). p.link) (filter (λ p. nat_le p.line line) (placed_of rows)) link inside in
    let (among, passes) = Contains-filter (λ (p : PlacedLink Item). nat_le p.line line) (placed_of rows) p held in
    subst (λ links. Contains links link) (links-placed rows)
    (subst (Contains (map (λ (p : PlacedLink Item). p.link) (placed_of rows))) (sym same) (Contains-by (λ (p : PlacedLink Item). p.link) (placed_of rows) p among))

module _ (bytes : List ℕ) (names : List (List ℕ)) (rows : List EdgeRow) (distinct : AreDistinct names) (within : AreWithin (length names) rows)
    (said : named_rows names rows ≡ placed_links_of (lines_of bytes)) (grown : GrowBy [] (names_of (lines_of bytes)) names)
    (readable : (fault : Fault) → IsReadRefusal [] bytes fault → ⊥) where
  links_are : map (link_by (name_of names)) (links_of rows) ≡ links_in bytes
  links_are = sym (links-by names rows) ∙ ap (λ placed. map (λ (p : PlacedLink (List ℕ)). p.link) placed) said

  placed_are : map (placed_by (name_of names)) (placed_of rows) ≡ placed_links_of (lines_of bytes)
  placed_are = sym (rows-by names rows) ∙ said

  one : (x y : Item) → HasName names x → HasName names y → name_of names x ≡ name_of names y → x ≡ y
  one x y p q same = Item-same x y (distinct x.0 y.0 p q same)

  named : All (λ l. HasName names l.child × HasName names l.parent) (links_of rows)
  named = All-map (λ l. HasName names l.child × HasName names l.parent) link_of rows within

  named_upto : (line : ℕ) → All (λ l. HasName names l.child × HasName names l.parent) (links_through line (placed_of rows))
  named_upto line = all-of (λ l. HasName names l.child × HasName names l.parent) (links_through line (placed_of rows))
      (λ link held. All-contains (λ l. HasName names l.child × HasName names l.parent) (links_of rows) link named (through-among line rows link held))

  rows_renamed : Renames (links_of rows) (links_in bytes) (HasName names) (name_of names)
  rows_renamed = subst (λ others. Renames (links_of rows) others (HasName names) (name_of names)) links_are
      (renames (name_of names) (links_of rows) (HasName names) one named)

  -- what stands above what, by number and by name
  closed_renamed : (h : Ancestry) → Closes (length names) rows h → Renames h.links (links_in bytes) (HasName names) (name_of names)
  closed_renamed h closes = record {
    one_to_one = one;
    forth = λ w t q p up. rows_renamed.forth w t q p ((closes.ancestors w t).0 up);
    back = λ w t q p up. (closes.ancestors w t).1 (rows_renamed.back w t q p up);
    up = λ v t up p. rows_renamed.up v t ((closes.ancestors v t).0 up) p;
    upward = rows_renamed.upward;
  }

  is_named : (name : List ℕ) → Contains (names_of (lines_of bytes)) name → (x : Item) × HasName names x × (name ≡ name_of names x)
  is_named name held =
      let (k, below, is) = (grown.exact name).1 held in
      (item_at k, below, sym is ∙ get_or_default names k name [] below)

  names_it : (x : Item) → HasName names x → Contains (names_of (lines_of bytes)) (name_of names x)
  names_it x has = (grown.exact (name_of names x)).0 (Contains-get_or names x.0 [] has)

  cycle_named : (line : ℕ) → IsCycleLine (placed_of rows) line → IsCycleLine (placed_links_of (lines_of bytes)) line
  cycle_named line cycle = subst (λ placed. IsCycleLine placed line) placed_are (IsCycleLine-by (name_of names) (HasName names) one (placed_of rows) named_upto line cycle)

  cycle_numbered : (line : ℕ) → IsCycleLine (placed_links_of (lines_of bytes)) line → IsCycleLine (placed_of rows) line
  cycle_numbered line cycle = IsCycleLine-from (name_of names) (HasName names) one (placed_of rows) named_upto line (subst (λ placed. IsCycleLine placed line) (sym placed_are) cycle)

  no_cycle_line : IsAcyclic (links_of rows) → (line : ℕ) → IsCycleLine (placed_links_of (lines_of bytes)) line → ⊥
  no_cycle_line acyclic line cycle =
      acyclic (HasCycle-more (links_through line (placed_of rows)) (links_of rows) (through-among line rows) (cycle_numbered line cycle).0)

  more_named : HasMoreAncestors most_ancestors (links_of rows) (λ t. t.0 < length names)
      → HasMoreAncestors most_ancestors (links_in bytes) (λ name. Contains (names_of (lines_of bytes)) name)
  more_named more =
      let (pairs, apart, each, many) = subst (λ others. HasMoreAncestors most_ancestors others (λ b. (x : Item) × HasName names x × (b ≡ name_of names x))) links_are
      (HasMoreAncestors-by (name_of names) (HasName names) one most_ancestors (links_of rows) named more) in (
        pairs,
        apart,
        (λ k d below. let ((x, has, is), up) = each k d below in (subst (Contains (names_of (lines_of bytes))) (sym is) (names_it x has), up)),
        many,
      )

  more_numbered : HasMoreAncestors most_ancestors (links_in bytes) (λ name. Contains (names_of (lines_of bytes)) name)
      → HasMoreAncestors most_ancestors (links_of rows) (λ t. t.0 < length names)
  more_numbered (pairs, apart, each, many) =
      HasMoreAncestors-from (name_of names) (HasName names) one most_ancestors (links_of rows) named
      (subst (λ others. HasMoreAncestors most_ancestors others (λ b. (x : Item) × HasName names x × (b ≡ name_of names x))) (sym links_are)
      (pairs, apart, (λ k d below. let (held, up) = each k d below in (is_named _ held, up)), many))

  -- why the rows make no hierarchy is the first refusal of the file
  pub close-refused : (e : CloseFault) → e ≢ NoMemory → IsCloseRefusal (length names) rows e → IsHierarchyRefusal bytes (fault_of_close e)
  close-refused (Cycle line) apart cycle =
      inr ((λ o large. readable o (inl large)), inr ((λ o among. readable o (inr ((λ p large. readable p (inl large)), among))), inl (line, cycle_named line cycle, refl)))
  close-refused TooManyAncestors apart (acyclic, more) =
      inr (
        (λ o large. readable o (inl large)),
        inr (
          (λ o among. readable o (inr ((λ p large. readable p (inl large)), among))),
          inr ((λ o found. no_cycle_line acyclic found.0 found.1), (more_named more, refl)),
        ),
      )
  close-refused NoMemory apart none = absurd (apart refl)

  -- where they make one, nothing of the file is refused
  not_refused : (h : Ancestry) → Closes (length names) rows h → (fault : Fault) → IsHierarchyRefusal bytes fault → ⊥
  not_refused h closes fault (inl large) = readable fault (inl large)
  not_refused h closes fault (inr (small, inl among)) = readable fault (inr (small, among))
  not_refused h closes fault (inr (small, inr (sound, inl found))) = no_cycle_line closes.acyclic found.0 found.1
  not_refused h closes fault (inr (small, inr (sound, inr (none, more)))) = closes.few (more_numbered more.0)

  -- the hierarchy of the rows is that of the file
  pub hierarchy-of : (h : Ancestry) → Closes (length names) rows h → IsHierarchyOf bytes names h
  hierarchy-of h closes =
      let renamed = closed_renamed h closes in record {
        accepted = not_refused h closes;
        held = grown.exact;
        items = closes.items_are;
        above = λ w t w_held t_held. ((λ up. renamed.forth w t w_held t_held up), (λ up. renamed.back w t w_held t_held up));
      }
