use Rattle.std.proofs.Common.{◌≡◌, ◌+◌, ◌≤◌, ◌++◌, ℕ, List, length, take, sym, ap, ◌∙◌, append_assoc, arith}
use Rattle.std.proofs.lemmas.List.{take_all}
use Rattle.number_register.proofs.interchange_key.number_key.Goals as goal

-- a key once a field more is written
one_more : (n at : ℕ) (field before old new : List ℕ) → n ≡ at + length field → take (at + length field) new ≡ take at old ++ field
    → take at old ≡ before → take n new ≡ before ++ field
one_more n at field before old new long written is =
    ap (λ (m : ℕ). take m new) long ∙ written ∙ ap (λ (l : List ℕ). l ++ field) is

whole : (a b c d f key : List ℕ) → length key ≡ 43 → take 43 key ≡ (((a ++ b) ++ c) ++ d) ++ f
    → key ≡ a ++ (b ++ (c ++ (d ++ f)))
whole a b c d f key long is =
    let within : length key ≤ 43 = omega (arith, long) in
    sym (take_all 43 key within) ∙ is ∙ append_assoc ((a ++ b) ++ c) d f ∙ append_assoc (a ++ b) c (d ++ f)
    ∙ append_assoc a b (c ++ (d ++ f))

-- the fields of one header
same_fields : {a b c d f a' b' c' d' f' : List ℕ} → a ≡ a' → b ≡ b' → c ≡ c' → d ≡ d' → f ≡ f'
    → a ++ (b ++ (c ++ (d ++ f))) ≡ a' ++ (b' ++ (c' ++ (d' ++ f')))
same_fields a b c d f = cc

pub returns : goal.returns
returns c =
    let a : List ℕ = c.field.result.now in
    let b : List ℕ = c.field-2.result.now in
    let d : List ℕ = c.field-3.result.now in
    let e : List ℕ = c.field-4.result.now in
    let f : List ℕ = c.field-5.result.now in
    let one : take 2 c.put.new.key ≡ a =
    ap (λ (m : ℕ). take m c.put.new.key) (let l : 2 ≡ 0 + length a = omega (arith, c.field.ensures.len) in l) ∙ c.put.ensures in
    let two = one_more 17 2 b a c.put.new.key c.put-2.new.key (omega (arith, c.field-2.ensures.len)) c.put-2.ensures one in
    let three = one_more 19 17 d (a ++ b) c.put-2.new.key c.put-3.new.key (omega (arith, c.field-3.ensures.len)) c.put-3.ensures two in
    let four = one_more 34 19 e ((a ++ b) ++ d) c.put-3.new.key c.put-4.new.key (omega (arith, c.field-4.ensures.len)) c.put-4.ensures
    three in
    let five = one_more 43 34 f (((a ++ b) ++ d) ++ e) c.put-4.new.key c.put-5.new.key (omega (arith, c.field-5.ensures.len))
    c.put-5.ensures four in
    whole a b d e f c.put-5.new.key c.put-5.array_long five
    ∙ same_fields c.field.ensures.value c.field-2.ensures.value c.field-3.ensures.value c.field-4.ensures.value c.field-5.ensures.value
