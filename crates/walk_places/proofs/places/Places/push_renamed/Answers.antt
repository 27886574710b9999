use Rattle.std.proofs.Common.{◌≡◌, ◌∙◌, ◌+◌, ◌++◌, [], ◌∷◌, ℕ, List, map, take, get_or, sym, ap, append_assoc}
use Rattle.std.proofs.lemmas.List.{map_more}
use Rattle.std.proofs.lemmas.Option.{slice_get_within, get_or_from_slice_get}
use Rattle.walk_places.specs.declared.places.Record.{Record}
use Rattle.walk_places.specs.Names.{renamed}
use Rattle.walk_places.proofs.places.Places.push_renamed.Goals as goal

pub bounds-names-entry : goal.bounds-names-entry
bounds-names-entry c =
    let more = c.args.more.now in
    let entry = c.get-entry.result in
    let there = c.get-entry.ensures in
    c.requires.known entry (c.loop-place.place, slice_get_within more c.loop-place.place entry there, get_or_from_slice_get more c.loop-place.place entry entry there)

pub loop-place-preserved : goal.loop-place-preserved
loop-place-preserved c =
    let more = c.args.more.now in
    let names = c.args.names.now in
    let old = c.args.self.now in
    let place : ℕ = c.loop-place.place in
    let entry = c.get-entry.result in
    let there = c.get-entry.ensures in
    let this : get_or more place entry ≡ entry = get_or_from_slice_get more place entry entry there in
    let grown : map (renamed names) (take (place + 1) more) ≡ map (renamed names) (take place more) ++ renamed names entry ∷ [] =
    map_more (renamed names) more place entry (slice_get_within more place entry there) ∙ ap (λ (e : Record). map (renamed names) (take place more) ++ renamed names e ∷ []) this in
    c.in_ok-push.ensures.pushed ∙ (ap (λ (ps : List Record). ps ++ renamed names entry ∷ []) c.loop-place.invariant
    ∙ (append_assoc old (map (renamed names) (take place more)) (renamed names entry ∷ []) ∙ ap (λ (ps : List Record). old ++ ps) (sym grown)))
