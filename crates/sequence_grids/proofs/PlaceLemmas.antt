-- The places of a sequence, from its end.
use Rattle.std.proofs.Common.{◌≡◌, ℕ, ◌+◌, ◌-◌, ◌<◌, ◌≤◌, inl, inr, List, [], ◌∷◌, ◌++◌, drop, length, arith, refl, sym, ap, ◌∙◌, subst, Some, rules}
use Rattle.std.specs.List.{Contains, slice_get}
use Rattle.std.proofs.Math.ListN.{drop_of_length-le}
use Rattle.std.proofs.lemmas.List.{length-append}
use Rattle.std.proofs.lemmas.Option.{slice_get_within, same_Some}
use Rattle.std.proofs.lemmas.Bool.{cases_eq}
use Rattle.mine_model.specs.declared.item.Item.{Item}
use Rattle.mine_model.proofs.ListLemmas.{Contains-none}
use Rattle.mining_job.specs.declared.bound.Bound.{Bound}
use Rattle.sequence_grids.specs.declared.kinds.Kind.{Kind}
use Rattle.sequence_grids.specs.declared.kinds.Kinds.{Kinds}
use Rattle.sequence_grids.specs.declared.places.Place.{Place}
use Rattle.mining_job.specs.Problems.{Problem, IsWhole, items_of}
use Rattle.sequence_grids.specs.Tables.{ClassSets, TripleSets, TableValue, Grows, IsStep, IsStepAt, IsLast}
use Rattle.sequence_grids.specs.Kinds.{IsClassFor, HasKind, AreKinds, IsMet, AreMet, KindsGrow, Extends}
use Rattle.sequence_grids.specs.Places.{IsTripleOf, HasTriple, IsTableOf, IsPlaceAt, ArePlaces, AreFilled, IsAlphabetTo}
use Rattle.mine_model.proofs.ElementLemmas.{get-left, stands_last}
use Rattle.sequence_grids.proofs.KindLemmas.{HasKind-grow, LeadsInto-of, nil-not-cons}
use Rattle.sequence_grids.proofs.PathLemmas.{target-of, ends-step, seen-step, more-step, unseen-step}

-- the triple of the end
pub IsTripleOf-last : (problem : Problem) (bound : Bound) (triple : TripleSets) → IsLast problem.transducer.finals triple → IsTripleOf problem bound [] triple
IsTripleOf-last problem bound triple last = record {
  seen = λ q state. (
    (λ has. ([], ((last.seen q).0 has, refl), tt, inl refl)),
    (λ (output, (final, nothing), allowed, met). (last.seen q).1 final),
  );
  more = λ q state. (
    (λ has. absurd (last.more q has)),
    (λ (v, more, (final, nothing), allowed, met). absurd (nil-not-cons v more (sym nothing))),
  );
  unseen = λ q state. (
    (λ has. absurd (last.unseen q has)),
    (λ (output, (final, nothing), allowed, met). elim met [
      | inl no' ↦ absurd (search rules)
      | inr (v, held, is) ↦ absurd (Contains-none v (subst (λ (xs : List Item). Contains xs v) nothing held))
    ]),
  );
  ends = λ q state. (
    (λ has. ((last.ends q).0 has, refl)),
    (λ path. (last.ends q).1 path.0),
  );
}

-- the triple before an item
pub IsTripleOf-step : (problem : Problem) → IsWhole problem → (bound : Bound) (table : TableValue) → IsTableOf problem table
    → (t : Item) (rest : List Item) (class : ClassSets) (after before : TripleSets) → IsClassFor problem bound t class → IsTripleOf problem bound rest after
    → IsStep table.predecessors class after before → IsTripleOf problem bound (t ∷ rest) before
IsTripleOf-step problem whole bound table is_table t rest class after before is_class is_after step = record {
  seen = λ q state. (
    (λ has.
        let (k, precedes, into, then') = (step.seen q).0 has in
        let leads = (is_table.edges q k state).0 precedes in
        let target = target-of problem whole q k leads in
        (seen-step problem whole bound t rest q).1 (k, leads, (LeadsInto-of problem bound t class k is_class target).0 into, (is_after.seen k target.1).0 then')),
    (λ completes.
        let (k, leads, goes, then') = (seen-step problem whole bound t rest q).0 completes in
        let target = target-of problem whole q k leads in
        (step.seen q).1 (k, (is_table.edges q k state).1 leads, (LeadsInto-of problem bound t class k is_class target).1 goes, (is_after.seen k target.1).1 then')),
  );
  more = λ q state. (
    (λ has.
        let (k, precedes, either) = (step.more q).0 has in
        let leads = (is_table.edges q k state).0 precedes in
        let target = target-of problem whole q k leads in
        (more-step problem whole bound t rest q).1 (
          k,
          leads,
          elim either [
            | inl (silent, then') ↦ inl ((is_class.silent k target).0 silent, (is_after.more k target.1).0 then')
            | inr (writes, then') ↦ inr ((is_class.writes k target).0 writes, (is_after.seen k target.1).0 then')
          ],
        )),
    (λ continues.
        let (k, leads, either) = (more-step problem whole bound t rest q).0 continues in
        let target = target-of problem whole q k leads in
        (step.more q).1 (
          k,
          (is_table.edges q k state).1 leads,
          elim either [
            | inl (silent, then') ↦ inl ((is_class.silent k target).1 silent, (is_after.more k target.1).1 then')
            | inr (writes, then') ↦ inr ((is_class.writes k target).1 writes, (is_after.seen k target.1).1 then')
          ],
        )),
  );
  unseen = λ q state. (
    (λ has.
        let (k, precedes, either) = (step.unseen q).0 has in
        let leads = (is_table.edges q k state).0 precedes in
        let target = target-of problem whole q k leads in
        (unseen-step problem whole bound t rest q).1 (
          k,
          leads,
          elim either [
            | inl (into, then') ↦ inl ((LeadsInto-of problem bound t class k is_class target).0 into, (is_after.unseen k target.1).0 then')
            | inr (needs, then') ↦ inr ((is_class.needs k target).0 needs, (is_after.seen k target.1).0 then')
          ],
        )),
    (λ completes.
        let (k, leads, either) = (unseen-step problem whole bound t rest q).0 completes in
        let target = target-of problem whole q k leads in
        (step.unseen q).1 (
          k,
          (is_table.edges q k state).1 leads,
          elim either [
            | inl (goes, then') ↦ inl ((LeadsInto-of problem bound t class k is_class target).1 goes, (is_after.unseen k target.1).1 then')
            | inr (needs, then') ↦ inr ((is_class.needs k target).1 needs, (is_after.seen k target.1).1 then')
          ],
        )),
  );
  ends = λ q state. (
    (λ has.
        let (k, precedes, silent, then') = (step.ends q).0 has in
        let leads = (is_table.edges q k state).0 precedes in
        let target = target-of problem whole q k leads in
        (ends-step problem whole t rest q).1 (k, leads, (is_class.silent k target).0 silent, (is_after.ends k target.1).0 then')),
    (λ ends.
        let (k, leads, silent, then') = (ends-step problem whole t rest q).0 ends in
        let target = target-of problem whole q k leads in
        (step.ends q).1 (k, (is_table.edges q k state).1 leads, (is_class.silent k target).1 silent, (is_after.ends k target.1).1 then')),
  );
}

-- the same by numbers, where the kind of the item says what its class is
pub HasTriple-step : (problem : Problem) → IsWhole problem → (bound : Bound) (table : TableValue) → IsTableOf problem table → (kinds : Kinds) (t : Item) (number : ℕ) → HasKind problem bound table.classes kinds t number
    → (kind : Kind) → ((k : Kind) → slice_get kinds.kinds.items number ≡ Some k → kind ≡ k) → (after before : ℕ) → IsStepAt table.predecessors table.classes table.triples kind.class after before
    → (rest : List Item) → HasTriple problem bound table.triples rest after → HasTriple problem bound table.triples (t ∷ rest) before
HasTriple-step problem whole bound table is_table kinds t number (of_number, found_kind, is_kind) kind same after before (c, a, b, found_c, found_a, found_b, step) rest (triple, found, is) =
    let (class, found_class, is_class) = is_kind.class in
    let same_class : c ≡ class = same_Some c class (sym found_c ∙ (ap (λ (k : Kind). slice_get table.classes k.class) (same of_number found_kind) ∙ found_class)) in
    let same_after : a ≡ triple = same_Some a triple (sym found_a ∙ found) in (
      b,
      found_b,
      IsTripleOf-step problem whole bound table is_table t rest c a b (subst (IsClassFor problem bound t) (sym same_class) is_class) (subst (IsTripleOf problem bound rest) (sym same_after) is) step,
    )

-- ---- what stays while tables and kinds grow

pub HasTriple-grow : (problem : Problem) (bound : Bound) (triples triples' : List TripleSets) (rest : List Item) (number : ℕ)
    → HasTriple problem bound triples rest number → Extends triples triples' → HasTriple problem bound triples' rest number
HasTriple-grow problem bound triples triples' rest number (triple, found, is) (more, e) = (triple, (rw e (get-left triples more number triple found)), is)

pub IsTableOf-grow : (problem : Problem) (table table' : TableValue) → IsTableOf problem table → Grows table table' → IsTableOf problem table'
IsTableOf-grow problem table table' is grows = record {
  states = ap length grows.predecessors ∙ is.states;
  edges = rw grows.predecessors is.edges;
  last = let (triple, found, last) = is.last in let (more, e) = grows.triples in (triple, (rw e (get-left table.triples more 0 triple found)), last);
}

pub IsPlaceAt-grow : (problem : Problem) (bound : Bound) (table table' : TableValue) (kinds kinds' : Kinds) (items : List Item) (position : ℕ) (place : Place)
    → IsPlaceAt problem bound table kinds items position place → Grows table table' → KindsGrow kinds kinds' → IsPlaceAt problem bound table' kinds' items position place
IsPlaceAt-grow problem bound table table' kinds kinds' items position place is grows grow = record {
  triple = HasTriple-grow problem bound table.triples table'.triples (drop position items) place.triple is.triple grows.triples;
  kind = λ t found. HasKind-grow problem bound table.classes table'.classes kinds kinds' t place.kind (is.kind t found) grows.classes grow;
}

pub ArePlaces-grow : (problem : Problem) (bound : Bound) (table table' : TableValue) (kinds kinds' : Kinds) (places places' : List Place) (end : ℕ) (items : List Item)
    → ArePlaces problem bound table kinds places end items → Grows table table' → KindsGrow kinds kinds' → Extends places places' → ArePlaces problem bound table' kinds' places' end items
ArePlaces-grow problem bound table table' kinds kinds' places places' end items are grows grow (more, e) position inside =
    let (below, (place, found, is)) = are position inside in
    (below, (place, (rw e (get-left places more (end - 1 - position) place found)), IsPlaceAt-grow problem bound table table' kinds kinds' items position place is grows grow))

-- ---- the places from a position on

pub AreFilled-none : (problem : Problem) (bound : Bound) (table : TableValue) (kinds : Kinds) (places : List Place) (items : List Item) (place : Place) (count : ℕ) → IsTableOf problem table
    → place.triple ≡ 0 → count ≡ length items → AreFilled problem bound table kinds (places ++ place ∷ []) (length places) items count
AreFilled-none problem bound table kinds places items place count is_table first all = record {
  inside = omega arith;
  long = omega (arith, length-append places (place ∷ []));
  filled = λ p least most.
      let here : p ≡ length items = omega arith in
      let nothing : drop p items ≡ [] = drop_of_length-le items (omega arith) in
      let index : length places + length items - p ≡ length places = omega arith in (
        place,
        (rw index (stands_last places place (length places) refl)),
        record {
          triple = let (triple, found, last) = is_table.last in (triple, (rw first found), (rw nothing (IsTripleOf-last problem bound triple last)));
          kind = λ t found. absurd (let within : p < length items = slice_get_within items p t found in omega arith);
        },
      );
}

pub AreFilled-more : (problem : Problem) (bound : Bound) (table table' : TableValue) (kinds kinds' : Kinds) (places : List Place) (from : ℕ) (items : List Item) (position : ℕ) (place : Place) (t : Item)
    → AreFilled problem bound table kinds places from items (position + 1) → Grows table table' → KindsGrow kinds kinds'
    → slice_get items position ≡ Some t → HasKind problem bound table'.classes kinds' t place.kind → HasTriple problem bound table'.triples (drop position items) place.triple
    → AreFilled problem bound table' kinds' (places ++ place ∷ []) from items position
AreFilled-more problem bound table table' kinds kinds' places from items position place t so_far grows grow here kind triple =
    let inside = so_far.inside in
    let long = so_far.long in
    record {
      inside = omega arith;
      long = omega (arith, length-append places (place ∷ []));
      filled = λ p least most. elim (cases_eq p position) [
        | inl same ↦
            let index : from + length items - p ≡ length places = omega arith in (
              place,
              (rw index (stands_last places place (length places) refl)),
              (rw same (record {
                triple = triple;
                kind = λ u found.
                    let one : u ≡ t = same_Some u t (sym found ∙ here) in
                    rw one kind;
              })),
            )
        | inr other ↦
            let (old, found, is) = so_far.filled p (omega arith) most in (
              old,
              get-left places (place ∷ []) (from + length items - p) old found,
              IsPlaceAt-grow problem bound table table' kinds kinds' items p old is grows grow,
            )
      ];
    }

pub AreFilled-all : (problem : Problem) (bound : Bound) (table : TableValue) (kinds : Kinds) (places : List Place) (from : ℕ) (items : List Item) (position : ℕ)
    → AreFilled problem bound table kinds places from items position → position ≤ 0 → ArePlaces problem bound table kinds places (length places) items
AreFilled-all problem bound table kinds places from items position so_far none p most =
    let long = so_far.long in
    let (place, found, is) = so_far.filled p (omega arith) most in
    let index : length places - 1 - p ≡ from + length items - p = omega arith in
    (omega arith, (place, (rw index found), is))

-- ---- the kinds of the items of one more sequence

-- an alphabet of which no sequence is claimed
pub IsAlphabetTo-none : (problem : Problem) (bound : Bound) (table : TableValue) (kinds : Kinds) → IsTableOf problem table → AreKinds problem bound table.classes kinds → IsAlphabetTo problem bound table kinds 0
IsAlphabetTo-none problem bound table kinds table_is kinds_are = record {
  table_is = table_is;
  kinds_are = kinds_are;
  met = λ i below. absurd (omega (arith, below));
}

pub IsAlphabetTo-more : (problem : Problem) (bound : Bound) (table table' : TableValue) (kinds kinds' : Kinds) (count : ℕ) → IsAlphabetTo problem bound table kinds count
    → IsTableOf problem table' → AreKinds problem bound table'.classes kinds' → ((t : Item) → IsMet kinds t → IsMet kinds' t) → AreMet kinds' (items_of problem count)
    → IsAlphabetTo problem bound table' kinds' (count + 1)
IsAlphabetTo-more problem bound table table' kinds kinds' count is table_is kinds_are kept met = record {
  table_is = table_is;
  kinds_are = kinds_are;
  met = λ i below. elim (cases_eq i count) [
    | inl same ↦ rw same met
    | inr earlier ↦ λ t held. kept t (is.met i (omega (arith, below, earlier)) t held)
  ];
}
