-- Codes of records with the names of their numbers.
use Rattle.std.proofs.Common.{◌≡◌, ℕ, ◌/◌, ◌%◌, ◌<◌, List, [], ◌∷◌, ◌++◌, map, length, refl, sym, ap, ◌∙◌}
use Rattle.std.specs.List.{Contains, slice_index}
use Rattle.std.proofs.lemmas.Nat.{div-mul-add, mod-mul-add}
use Rattle.std.proofs.lemmas.List.{append-nil, map-append}
use Rattle.mine_model.proofs.ListLemmas.{Contains-first, Contains-other}
use Rattle.walk_places.specs.declared.places.Record.{Record}
use Rattle.walk_places.specs.Names.{renamed}
use Rattle.walk_places.specs.Records.{record_of, recoded, AreLow}

module _ (names : List ℕ) (low : AreLow names) where
  -- the record of a code with another name
  record-recoded : (code : ℕ) → code % 4096 < length names → record_of (recoded names code) ≡ renamed names (record_of code)
  record-recoded code known =
      let name : ℕ = slice_index names (code % 4096) in
      let kind : recoded names code / 4096 ≡ code / 4096 = div-mul-add (code / 4096) 4096 name (low (code % 4096) known) in
      let of : recoded names code % 4096 ≡ name = mod-mul-add (code / 4096) 4096 name (low (code % 4096) known) in
      λ i. record { kind = kind i; of = of i }

  -- the same of a list
  pub records-recoded : (codes : List ℕ) → ((code : ℕ) → Contains codes code → code % 4096 < length names)
      → map record_of (map (recoded names) codes) ≡ map (renamed names) (map record_of codes)
  records-recoded [] known = refl
  records-recoded (code ∷ codes) known =
      let first = record-recoded code (known code (Contains-first code codes)) in
      let rest = records-recoded codes (λ other held. known other (Contains-other code codes other held)) in
      λ i. first i ∷ rest i

-- appended behind codes
pub records-appended : (names old more now : List ℕ) (before rest : List Record) → AreLow names → ((code : ℕ) → Contains more code → code % 4096 < length names)
    → before ≡ [] → rest ≡ [] → now ≡ old ++ map (recoded names) more
    → map record_of now ++ before ≡ (map record_of old ++ before) ++ map (renamed names) (map record_of more ++ rest)
records-appended names old more now before rest low known none empty is =
    rw (none, empty, is) (append-nil (map record_of (old ++ map (recoded names) more)) ∙ (map-append record_of old (map (recoded names) more)
    ∙ (ap (λ (l : List Record). map record_of old ++ l) (records-recoded names low more known)
    ∙ (λ i. sym (append-nil (map record_of old)) i ++ map (renamed names) (sym (append-nil (map record_of more)) i)))))
