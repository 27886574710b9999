-- What a good proof proves, whatever the data.
use Rattle.std.proofs.Common.{◌≡◌, ◌≢◌, ℕ, ◌+◌, ◌-◌, ◌≤◌, ◌<◌, inl, inr, List, [], ◌∷◌, map, length, refl, sym, ap, subst, arith, Contains}
use Rattle.std.specs.List.{AllByRecursion}
use Rattle.std.proofs.lemmas.List.{length-map}
use Rattle.std.proofs.lemmas.Option.{slice_get_within}
use Rattle.mine_model.specs.declared.item.Item.{Item}
use Rattle.mine_model.specs.Answer.{Data}
use Rattle.mine_model.specs.Database.{sequence_at}
use Rattle.mine_model.specs.Generation.{IsPatternOf}
use Rattle.mine_model.specs.Growth.{WeighAtLeast}
use Rattle.mine_model.specs.Names.{name_of, link_by, sequence_by}
use Rattle.mine_model.specs.Support.{Sequence, HasSupport}
use Rattle.mine_model.proofs.AliveLemmas.{WeighAtLeast-less, WeighAtLeast-counted}
use Rattle.mine_model.proofs.ElementLemmas.{slice_get-mapped_by}
use Rattle.mine_model.proofs.ListLemmas.{Contains-from, AllByRecursion-contained, AllByRecursion-weaker}
use Rattle.mine_model.proofs.NumberingLemmas.{one_to_one-lists, map-none}
use Rattle.pattern_proof.specs.ProofLines.{Cited, Entry}
use Rattle.pattern_proof.specs.Proofs.{RiseByPlace}
use Rattle.pattern_proof.proofs.SayLemmas.{say-some}
use Rattle.pattern_proof.proofs.WeightLemmas.{summed, weigh-from}
use Rattle.proof_names.specs.NamedProofs.{ProofRow, SayRows, Shows, shown_weight, IsProvedRow, IsGoodProof}
use Rattle.proof_names.proofs.EncodingLemmas.{item_of, Any, all-any, encodes}
use Rattle.proof_names.proofs.NamedSayLemmas.{named_entry, say-back}
use Rattle.proof_names.proofs.PathLemmas.{named-path-generates}
use Rattle.proof_names.proofs.ShowLemmas.{sequence-found, weight-by}

module _ (d : Data (List ℕ)) (pattern : List (List ℕ)) where
  abbrev Has : List (List ℕ) → Type 0
  Has items = IsPatternOf d.links d.expression items pattern

  -- the items are those of a sequence of names that has the pattern
  abbrev HasBehind : List Item → Type 0
  HasBehind items = (own : List (List ℕ)) × (items ≡ map item_of own) × Has own

  abbrev Encoded : List (Sequence Item)
  Encoded = map (sequence_by item_of) d.sequences

  weigh-back : (sequences : List (Sequence (List ℕ))) (n : ℕ) → WeighAtLeast HasBehind (map (sequence_by item_of) sequences) n → WeighAtLeast Has sequences n
  weigh-back [] n weigh = weigh
  weigh-back (s ∷ sequences) n (inl (has, rest)) =
      let (own, same, is) = has in
      inl (
        subst Has (sym (one_to_one-lists d.links (map (link_by item_of) d.links) Any item_of (encodes d.links) s.items own (all-any s.items) (all-any own) same)) is,
        weigh-back sequences (n - s.weight) rest,
      )
  weigh-back (s ∷ sequences) n (inr rest) = inr (weigh-back sequences n rest)

  weights-encoded : (paths : List Cited) → summed HasBehind (λ i. sequence_at Encoded i) paths ≡ shown_weight d paths
  weights-encoded [] = refl
  weights-encoded (path ∷ paths) = λ i. weight-by item_of d.sequences path.place i + weights-encoded paths i

  has-at : (path : Cited) → pattern ≢ [] → Shows d pattern path → HasBehind (sequence_at Encoded path.place).items
  has-at path some (s, found, passes) =
      subst (λ (t : Sequence Item). HasBehind t.items)
      (sym (sequence-found Encoded path.place (sequence_by item_of s) (slice_get-mapped_by (sequence_by item_of) d.sequences path.place s found)))
      (s.items, refl, (some, named-path-generates d.links d.expression path.states s.items pattern passes))

  -- the sequences with the pattern weigh at least what those of the paths weigh
  pub shown-weigh : (paths : List Cited) → pattern ≢ [] → AllByRecursion (Shows d pattern) paths → RiseByPlace paths → WeighAtLeast Has d.sequences (shown_weight d paths)
  shown-weigh paths some each rise =
      subst (WeighAtLeast Has d.sequences) (weights-encoded paths)
      (weigh-back d.sequences (summed HasBehind (λ i. sequence_at Encoded i) paths)
      (weigh-from HasBehind 0 Encoded (λ i. sequence_at Encoded i) paths (record {
        rise = rise;
        least = AllByRecursion-weaker (Shows d pattern) (λ (path : Cited). 0 ≤ path.place) (λ path shows. omega arith) paths each;
        most = AllByRecursion-weaker (Shows d pattern) (λ (path : Cited). path.place < 0 + length Encoded)
            (λ path shows. (let there = slice_get_within d.sequences path.place shows.0 shows.1 in let long = length-map d.sequences (sequence_by item_of) in omega (arith, there, long))) paths each;
        has = AllByRecursion-weaker (Shows d pattern) (λ (path : Cited). HasBehind (sequence_at Encoded path.place).items) (λ path shows. has-at path some shows) paths each;
        looked = λ k less. (let e : 0 + k ≡ k = omega arith in ap (λ n. sequence_at Encoded n) e);
      })))

-- patterns that lines say are not empty
rows-some : (known : List (List ℕ)) (lines : List (List ℕ)) (rows : List ProofRow) → SayRows known lines rows → (row : ProofRow) → Contains rows row → row.row.pattern ≢ []
rows-some known lines rows said row inside =
    let (entries, same, say) = say-back known known (λ name. ((λ x. x), (λ x. x))) [] lines rows said in
    let (entry, within, is) = Contains-from (named_entry known) entries row (subst (λ l. Contains l row) (sym same) inside) in
    let some = AllByRecursion-contained (λ (e : Entry). e.row.pattern ≢ []) entries entry (say-some known [] lines entries say tt) within in
    subst (λ (r : ProofRow). r.row.pattern ≢ []) (sym is) (λ none. some (map-none (name_of known) entry.row.pattern none))

-- the rows of a good proof are patterns, and their supports are at least what they say
pub good-sound : (d : Data (List ℕ)) (known lines : List (List ℕ)) (count : ℕ) (good : IsGoodProof d known lines count) → (row : ProofRow) → Contains good.rows row
    → (row.row.pattern ≢ []) × WeighAtLeast (λ items. IsPatternOf d.links d.expression items row.row.pattern) d.sequences row.row.support
    × ((n : ℕ) → HasSupport d.links d.expression d.sequences row.row.pattern n → row.row.support ≤ n)
good-sound d known lines count good row inside =
    let proved : IsProvedRow d row = AllByRecursion-contained (IsProvedRow d) good.rows row good.proved inside in
    let some = rows-some known lines good.rows good.said row inside in
    let weigh = WeighAtLeast-less (λ items. IsPatternOf d.links d.expression items row.row.pattern) d.sequences (shown_weight d row.paths) row.row.support proved.enough
    (shown-weigh d row.row.pattern row.paths some proved.each proved.rise) in
    (some, weigh, (λ n support. (WeighAtLeast-counted (λ items. IsPatternOf d.links d.expression items row.row.pattern) d.sequences n row.row.support support).0 weigh))
