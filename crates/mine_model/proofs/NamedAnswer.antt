-- The answer by names, from the frequent patterns by the numbers of names.
use Rattle.std.proofs.Common.{◌≡◌, ℕ, ◌≤◌, ◌↔◌, List, sym, ap, subst, map, Contains, arith}
use Rattle.std.specs.List.{AllByRecursion}
use Rattle.mine_model.specs.declared.item.Item.{Item}
use Rattle.mine_model.specs.declared.row.Row.{Row}
use Rattle.mine_model.specs.Hierarchy.{Link}
use Rattle.mine_model.specs.Expression.{named_in}
use Rattle.mine_model.specs.Support.{Sequence}
use Rattle.mine_model.specs.Answer.{Data, IsFrequent, NamedRow, Rises, IsAnswer}
use Rattle.mine_model.specs.Names.{name_of, HasName, named_row, AreNamed}
use Rattle.mine_model.proofs.ListLemmas.{Contains-by, Contains-from}
use Rattle.mine_model.proofs.NumberingLemmas.{Renames, renamed_data, map-none, counts-forth, counts-back, supported-in, supported-back}

-- the data under the names, over links between names
abbrev pub named_data : List (List ℕ) → List (Link (List ℕ)) → Data Item → Data (List ℕ)
named_data names others d = renamed_data (name_of names) others d

-- a row whose pattern is written in another way
pub rebuilt : (row : NamedRow) (pattern : List (List ℕ)) → row.pattern ≡ pattern → record { pattern = pattern; support = row.support } ≡ row
rebuilt row pattern same = sym (ap (λ p. let made : NamedRow = record { pattern = p; support = row.support } in made) same)

module _ (names : List (List ℕ)) (others : List (Link (List ℕ))) (d : Data Item)
    (renames : Renames d.links others (HasName names) (name_of names))
    (numbered : AllByRecursion (λ (s : Sequence Item). AllByRecursion (HasName names) s.items) d.sequences)
    (named : AllByRecursion (HasName names) (named_in d.expression)) (some : 1 ≤ d.threshold) where
  pub frequent-forth : (pattern : List Item) (support : ℕ) → IsFrequent d pattern support
      → IsFrequent (named_data names others d) (map (name_of names) pattern) support
  frequent-forth pattern support is =
      let inside : AllByRecursion (HasName names) pattern =
      supported-in d.links others (HasName names) (name_of names) renames d.expression named pattern d.sequences support
      (omega (arith, some, is.enough)) numbered is.exact in
      record {
        not_empty = λ none. is.not_empty (map-none (name_of names) pattern none);
        exact = counts-forth d.links others (HasName names) (name_of names) renames d.expression named
            pattern inside d.sequences support numbered is.exact;
        enough = is.enough;
      }

  pub frequent-back : (pattern : List (List ℕ)) (support : ℕ) → IsFrequent (named_data names others d) pattern support
      → (own : List Item) × (pattern ≡ map (name_of names) own) × IsFrequent d own support × AllByRecursion (HasName names) own
  frequent-back pattern support is =
      let (own, same, inside) = supported-back d.links others (HasName names) (name_of names) renames d.expression named
      pattern d.sequences support (omega (arith, some, is.enough)) numbered is.exact in
      let is_own : IsFrequent (named_data names others d) (map (name_of names) own) support =
      subst (λ p. IsFrequent (named_data names others d) p support) same is in (
        own,
        same,
        record {
          not_empty = λ none. is_own.not_empty (ap (map (name_of names)) none);
          exact = counts-back d.links others (HasName names) (name_of names) renames d.expression named
              own inside d.sequences support numbered is_own.exact;
          enough = is_own.enough;
        },
        inside,
      )

module _ (names : List (List ℕ)) (others : List (Link (List ℕ))) (d : Data Item)
    (renames : Renames d.links others (HasName names) (name_of names)) (named : AreNamed names d) (some : 1 ≤ d.threshold) where
  -- the frequent rows in order are the answer by names
  pub answer-named : (rows : List Row) → ((row : Row) → Contains rows row ↔ IsFrequent d row.pattern row.support)
      → Rises (map (named_row names) rows)
      → IsAnswer (named_data names others d) (map (named_row names) rows)
  answer-named rows frequent rises = record {
    ordered = rises;
    frequent = λ row. (
      λ inside. let (r, held, same) = Contains-from (named_row names) rows row inside in
          subst (λ x. IsFrequent (named_data names others d) x.pattern x.support) (sym same)
          (frequent-forth names others d renames named.sequences named.expression some r.pattern r.support ((frequent r).0 held)),
      λ is. let (own, same, is_own, inside) = frequent-back names others d renames named.sequences named.expression some row.pattern row.support is in
          let r : Row = record { pattern = own; support = row.support } in
          let made : Contains (map (named_row names) rows) (named_row names r) =
          Contains-by (named_row names) rows r ((frequent r).1 is_own) in
          subst (Contains (map (named_row names) rows)) (rebuilt row (map (name_of names) own) same) made,
    );
  }
