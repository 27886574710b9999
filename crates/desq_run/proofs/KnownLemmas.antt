-- The names that an input knows, and the tree that it says.
use Rattle.std.proofs.Common.{◌≡◌, ◌<◌, ◌%◌, ◌^◌, ◌++◌, ℕ, inl, inr, Bool, true, nat_lt, if◌then◌else◌, codes, List, [], ◌∷◌, ◌⊎◌, Contains, refl, sym, ap, ◌∙◌, subst, arith}
use Rattle.std.specs.Char.{is_ascii_digit}
use Rattle.std.specs.Fmt.{decimal}
use Rattle.std.specs.List.{AllByRecursion, range_with_len}
use Rattle.std.proofs.lemmas.Bool.{cases_Bool}
use Rattle.std.proofs.lemmas.Bool.Decides.{nat_tests}
use Rattle.mine_model.specs.Expression.{Tree, tree_by}
use Rattle.mine_model.specs.Grammar.{Use}
use Rattle.mine_model.specs.Names.{AreDistinct, IsFileName}
use Rattle.mine_model.specs.Refusal.{names_of, items_of, sequences_of}
use Rattle.mine_model.specs.Text.{lines_of, is_name_byte}
use Rattle.mine_model.specs.Tokens.{Each}
use Rattle.mine_model.proofs.ListLemmas.{Contains-cases, Contains-none, Contains-from, AllByRecursion-from, AllByRecursion-contained, AllByRecursion-weaker}
use Rattle.patex_grammar.proofs.RefusalLemmas.{ReadsAs-unique}
use Rattle.pattern_proof.proofs.FieldLemmas.{file-names}
use Rattle.made_input.specs.Made.{made_name, made_names}
use Rattle.made_input.proofs.MakingLemmas.{names-known}
use Rattle.command_line.specs.Words.{Source, read, embed, make, merge}
use Rattle.desq_run.specs.Sources.{SaysTree}
use Rattle.desq_run.specs.Said.{names_said, sequences_said}
use Rattle.desq_run.specs.Ends.{Input, known_names}
use Rattle.desq_run.proofs.LinkLemmas.{Contains-both}
use Rattle.text_ports.proofs.DecimalLemmas.{decimal-is, digit-name}

-- a source says one tree
pub says-unique : (source : Source) (one other : Tree (List ℕ)) → SaysTree source one → SaysTree source other → one ≡ other
says-unique (read expression file) one other (uses, reads, same) (others, also, as_well) =
    same ∙ ap (tree_by (λ (u : Use). u.name)) (ReadsAs-unique expression uses others reads also) ∙ sym as_well
says-unique (embed rule file) one other same as_well = same ∙ sym as_well
says-unique (make count expression) one other (uses, reads, same) (others, also, as_well) =
    same ∙ ap (tree_by (λ (u : Use). u.name)) (ReadsAs-unique expression uses others reads also) ∙ sym as_well
says-unique (merge files) one other none also = absurd none

-- a name of the hierarchy or of the sequences of files is one of files
of-files : (lines : List (List ℕ)) (weighted : Bool) (bytes name : List ℕ)
    → Contains (names_of lines) name ⊎ Contains (items_of (sequences_of weighted bytes)) name → IsFileName name
of-files lines weighted bytes name from =
    let one : AreDistinct (name ∷ []) = λ i j i_less j_less same. omega (arith, i_less, j_less) in
    let are = file-names (name ∷ []) one lines weighted bytes (λ other held. elim (Contains-cases name [] other held) [
      | inl same ↦ subst (λ n. Contains (names_of lines) n ⊎ Contains (items_of (sequences_of weighted bytes)) n) (sym same) from
      | inr none ↦ absurd (Contains-none other none)
    ]) in
    (are.some.0, are.bytes.0)

-- Made names

digits-named : (n : ℕ) → n < 2 ^ 64 → Each is_name_byte true (decimal n)
digits-named n small = AllByRecursion-weaker (λ b. is_ascii_digit b ≡ true) (λ b. is_name_byte b ≡ true) digit-name (decimal n) (decimal-is n small).0

-- a name of a letter and digits
lettered : (letter n : ℕ) → is_name_byte letter ≡ true → n < 2 ^ 64 → IsFileName (letter ∷ decimal n)
lettered letter n is small = ((λ none. cc), (is, digits-named n small))

top-named : IsFileName (codes "top")
top-named = ((λ none. cc), (refl, (refl, (refl, tt))))

made-is : (n : ℕ) → IsFileName (made_name n)
made-is n = elim (cases_Bool (nat_lt n 100)) [
  | inl word ↦
      let less : n < 100 = grind (arith, nat_tests, word) in
      subst (λ b. IsFileName (if b then codes "w" ++ decimal n else (if nat_lt n 110 then codes "c" ++ decimal (n % 10) else codes "top"))) (sym word) (lettered 119 n refl (omega (arith, less)))
  | inr other ↦
      subst (λ b. IsFileName (if b then codes "w" ++ decimal n else (if nat_lt n 110 then codes "c" ++ decimal (n % 10) else codes "top"))) (sym other)
      (elim (cases_Bool (nat_lt n 110)) [
        | inl class ↦ subst (λ b. IsFileName (if b then codes "c" ++ decimal (n % 10) else codes "top")) (sym class) (lettered 99 (n % 10) refl (omega arith))
        | inr above ↦ subst (λ b. IsFileName (if b then codes "c" ++ decimal (n % 10) else codes "top")) (sym above) top-named
      ])
]

-- made names are names of files
made-are : AllByRecursion IsFileName made_names
made-are = AllByRecursion-from IsFileName made_names (λ name held.
    let (n, inside, same) = Contains-from made_name (range_with_len 0 111) name held in
    subst IsFileName (sym same) (made-is n))

known-at : (source : Source) (hierarchy : List ℕ) (weighted : Bool) (sequences name : List ℕ)
    → Contains (names_said source hierarchy) name ⊎ Contains (items_of (sequences_said source weighted sequences)) name → IsFileName name
known-at (read expression file) hierarchy weighted sequences name from = of-files (lines_of hierarchy) weighted sequences name from
known-at (embed rule file) hierarchy weighted sequences name from = of-files (lines_of hierarchy) weighted sequences name from
known-at (make count expression) hierarchy weighted sequences name from = AllByRecursion-contained IsFileName made_names name made-are (elim from [
  | inl own ↦ own
  | inr item ↦ names-known count name item
])
known-at (merge files) hierarchy weighted sequences name from = elim from [
  | inl none ↦ absurd (Contains-none name none)
  | inr none ↦ absurd (Contains-none name none)
]

-- the known names are names of files
pub known-files : (input : Input) → AllByRecursion IsFileName (known_names input)
known-files input = AllByRecursion-from IsFileName (known_names input) (λ name held.
    known-at input.command.source input.hierarchy input.command.weighted input.sequences name
    (Contains-both (names_said input.command.source input.hierarchy) (items_of (sequences_said input.command.source input.command.weighted input.sequences)) name held))
