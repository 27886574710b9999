use Rattle.std.proofs.Common.{◌≡◌, ◌∙◌, ℕ, ◌<◌, ◌≤◌, true, false, Some, List, [], ◌∷◌, lit<, lit≤, refl, sym, subst, arith}
use Rattle.std.specs.List.{All, slice_get}
use Rattle.std.proofs.lemmas.List.Elements.{All-from_recursion}
use Rattle.std.proofs.lemmas.Option.{same_Some}
use Rattle.packed_snapshots.specs.declared.snapshot.PlainSnapshot.{PlainSnapshot}
use Rattle.packed_snapshots.specs.Packed.{IsPacked}
use Rattle.place_walk.specs.declared.stand.Stand.{Stand}
use Rattle.waiting_stands.specs.Layouts.{IsStandOf, HasStand, AreStandsOf, HasSeen}
use Rattle.structure_tests.proofs.packing.are_packed.Goals as goal

abbrev numbers : List ℕ
numbers = 2 ∷ 3 ∷ 300 ∷ []

abbrev begins : List ℕ
begins = 0 ∷ 10 ∷ 15 ∷ []

-- the snapshots of the row, and their stands
abbrev row : List PlainSnapshot
row =
    record { sequence = 2; position = 1; state = 2; seen = true } ∷ record { sequence = 2; position = 9; state = 70; seen = true }
    ∷ record { sequence = 300; position = 0; state = 0; seen = true } ∷ record { sequence = 300; position = 2; state = 2; seen = true }
    ∷ record { sequence = 300; position = 2; state = 3; seen = true } ∷ []

abbrev placed : List Stand
placed =
    record { place = 1; state = 2; first = true } ∷ record { place = 9; state = 70; first = false } ∷ record { place = 15; state = 0; first = true }
    ∷ record { place = 17; state = 2; first = false } ∷ record { place = 17; state = 3; first = false } ∷ []

below : (place next : ℕ) → place < 10 → slice_get begins 1 ≡ Some next → place < next
below place next less at = subst (λ (n : ℕ). place < n) (same_Some 10 next at) less

one : IsStandOf numbers begins (record { sequence = 2; position = 1; state = 2; seen = true }) (record { place = 1; state = 2; first = true })
one = record { grid = 0; sequence = refl; place = refl; room = λ next at. below 1 next (lit< tt) at; state = refl }

two : IsStandOf numbers begins (record { sequence = 2; position = 9; state = 70; seen = true }) (record { place = 9; state = 70; first = false })
two = record { grid = 0; sequence = refl; place = refl; room = λ next at. below 9 next (lit< tt) at; state = refl }

three : IsStandOf numbers begins (record { sequence = 300; position = 0; state = 0; seen = true }) (record { place = 15; state = 0; first = true })
three = record { grid = 2; sequence = refl; place = refl; room = λ next at. absurd (cc); state = refl }

four : IsStandOf numbers begins (record { sequence = 300; position = 2; state = 2; seen = true }) (record { place = 17; state = 2; first = false })
four = record { grid = 2; sequence = refl; place = refl; room = λ next at. absurd (cc); state = refl }

five : IsStandOf numbers begins (record { sequence = 300; position = 2; state = 3; seen = true }) (record { place = 17; state = 3; first = false })
five = record { grid = 2; sequence = refl; place = refl; room = λ next at. absurd (cc); state = refl }

row-laid : AreStandsOf numbers begins row placed
row-laid = record {
  rising = (
    record { sequence = lit≤ tt; position = λ same. lit≤ tt },
    (
      record { sequence = lit≤ tt; position = λ same. lit≤ tt },
      (
        record { sequence = lit≤ tt; position = λ same. absurd (omega (arith, same)) },
        (record { sequence = lit≤ tt; position = λ same. lit≤ tt }, (record { sequence = lit≤ tt; position = λ same. lit≤ tt }, tt)),
      ),
    ),
  );
  near = All-from_recursion (λ (snapshot : PlainSnapshot). snapshot.position < 65536) row (lit< tt, (lit< tt, (lit< tt, (lit< tt, (lit< tt, tt)))));
  are = (one, (two, (three, (four, (five, tt)))));
}

row-has : All (HasStand numbers begins) row
row-has = All-from_recursion (HasStand numbers begins) row (
  record { stand = record { place = 1; state = 2; first = true }; is = one; fits = lit< tt },
  (
    record { stand = record { place = 9; state = 70; first = false }; is = two; fits = lit< tt },
    (
      record { stand = record { place = 15; state = 0; first = true }; is = three; fits = lit< tt },
      (
        record { stand = record { place = 17; state = 2; first = false }; is = four; fits = lit< tt },
        (record { stand = record { place = 17; state = 3; first = false }; is = five; fits = lit< tt }, tt),
      ),
    ),
  ),
)

row-seen : All (HasSeen true) row
row-seen = All-from_recursion (HasSeen true) row (refl, (refl, (refl, (refl, (refl, tt)))))

pub pack-requires-clause-stands : goal.pack-requires-clause-stands
pack-requires-clause-stands c =
    let same : placed ≡ c.of.result = sym (c.of.ensures ∙ (λ i. c.stand.ensures i ∷ c.stand-2.ensures i ∷ c.stand-3.ensures i ∷ c.stand-4.ensures i ∷ c.stand-5.ensures i ∷ [])) in
    (row, subst (AreStandsOf numbers begins row) same row-laid)

pub unpack-requires-clause-packed : goal.unpack-requires-clause-packed
unpack-requires-clause-packed c =
    let same : placed ≡ c.of.result = sym (c.of.ensures ∙ (λ i. c.stand.ensures i ∷ c.stand-2.ensures i ∷ c.stand-3.ensures i ∷ c.stand-4.ensures i ∷ c.stand-5.ensures i ∷ [])) in
    (row, subst (IsPacked row) (sym c.as_slice.ensures.value) (c.in_ok-bytes.ensures row (subst (AreStandsOf numbers begins row) same row-laid) row-seen), row-has)
