-- There is one number of the things that have a property.
use Rattle.std.proofs.Common.{◌≡◌, ℕ, ◌≤◌, map, sym, ◌∙◌, subst, get_or, arith}
use Rattle.std.specs.List.{Contains}
use Rattle.std.proofs.lemmas.List.{length-map}
use Rattle.std.proofs.lemmas.List.Elements.{Contains-get_or}
use Rattle.mine_model.specs.Numbers.{IsNumberOf}
use Rattle.mine_model.proofs.ListLemmas.{Contains-by, Contains-from, apart_within}
use Rattle.mine_model.proofs.NameLemmas.{distinct_fit}

-- where a property goes over to others by an image that no two share, as many have the one as the other
pub IsNumberOf-by : {X Y : Type 0} (Has : X → Type 0) (Also : Y → Type 0) (f : X → Y) (n : ℕ)
    → ((x y : X) → Has x → Has y → f x ≡ f y → x ≡ y) → ((x : X) → Has x → Also (f x)) → ((y : Y) → Also y → (x : X) × (y ≡ f x) × Has x)
    → IsNumberOf Has n → IsNumberOf Also n
IsNumberOf-by Has Also f n one forth back is = record {
  things = map f is.things;
  once = apart_within f is.things (λ x y here there. one x y ((is.exact x).0 here) ((is.exact y).0 there)) is.once;
  exact = λ y. (
    (λ held. let (x, inside, same) = Contains-from f is.things y held in subst Also (sym same) (forth x ((is.exact x).0 inside))),
    (λ has. let (x, same, own) = back y has in subst (Contains (map f is.things)) (sym same) (Contains-by f is.things x ((is.exact x).1 own))),
  );
  counted = is.counted ∙ sym (length-map is.things f);
}

number-le : {X : Type 0} (Has : X → Type 0) (m n : ℕ) → IsNumberOf Has m → IsNumberOf Has n → m ≤ n
number-le Has m n one other =
    let fit = distinct_fit one.things other.things one.once
    (λ k e below. (other.exact (get_or one.things k e)).1 ((one.exact (get_or one.things k e)).0 (Contains-get_or one.things k e below))) in
    omega (arith, fit, one.counted, other.counted)

pub IsNumberOf-unique : {X : Type 0} (Has : X → Type 0) (m n : ℕ) → IsNumberOf Has m → IsNumberOf Has n → m ≡ n
IsNumberOf-unique Has m n one other = omega (arith, number-le Has m n one other, number-le Has n m other one)
