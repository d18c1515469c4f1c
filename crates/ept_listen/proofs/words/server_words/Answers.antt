use Rattle.std.proofs.Common.{◌≡◌, ℕ, List, [], ◌∷◌, ap, sym, ◌∙◌, subst, string_bytes, arith}
use Rattle.ept_listen.specs.Words.{bytes_of, AreRead}
use Rattle.ept_listen.proofs.Lists.{two-items, three-items, four-items, five-items}
use Rattle.ept_listen.proofs.Reading.{plain-read, single-read}
use Rattle.ept_listen.proofs.words.server_words.Goals as goal

pub returns-in-len2 : goal.returns-in-len2
returns-in-len2 c =
    let words = two-items c.args.words.now c.out-item.result c.address-item.result c.in-len2.len_at_least c.in-len2.len_below c.out-item.is c.address-item.is in
    let out = c.deref.ensures in
    let address = c.deref-in-len2.ensures in
    let bytes : c.deref.result.now ∷ c.deref-in-len2.result.now ∷ [] ≡ string_bytes c.out-item.result ∷ string_bytes c.address-item.result ∷ [] = cc in
    subst (λ (ws : List (List ℕ)). AreRead ws c.read_place.result) (bytes ∙ sym (ap bytes_of words)) (plain-read (c.deref.result.now ∷ c.deref-in-len2.result.now ∷ []) c.read_place.result (λ same. omega (arith, same)) (λ same. omega (arith, same)) c.read_place.ensures)

pub returns-in-len4 : goal.returns-in-len4
returns-in-len4 c =
    let words = four-items c.args.words.now c.option-item.result c.count-item.result c.out-item-then-words-lt5.result c.address-item-then-words-lt5.result c.in-len4.len_at_least c.in-len4.len_below c.option-item.is c.count-item.is c.out-item-then-words-lt5.is c.address-item-then-words-lt5.is in
    let option = c.deref-in-len4.ensures in
    let count = c.deref-in-len4-2.ensures in
    let out = c.deref-in-len4-3.ensures in
    let address = c.deref-in-len4-4.ensures in
    let bytes : c.deref-in-len4.result.now ∷ c.deref-in-len4-2.result.now ∷ c.deref-in-len4-3.result.now ∷ c.deref-in-len4-4.result.now ∷ [] ≡ string_bytes c.option-item.result ∷ string_bytes c.count-item.result ∷ string_bytes c.out-item-then-words-lt5.result ∷ string_bytes c.address-item-then-words-lt5.result ∷ [] = cc in
    subst (λ (ws : List (List ℕ)). AreRead ws c.read_limited.result) (bytes ∙ sym (ap bytes_of words)) (plain-read (c.deref-in-len4.result.now ∷ c.deref-in-len4-2.result.now ∷ c.deref-in-len4-3.result.now ∷ c.deref-in-len4-4.result.now ∷ []) c.read_limited.result (λ same. omega (arith, same)) (λ same. omega (arith, same)) c.read_limited.ensures)

pub returns-in-len3 : goal.returns-in-len3
returns-in-len3 c =
    let words = three-items c.args.words.now c.single-item.result c.out-item-then-words-lt4.result c.address-item-then-words-lt4.result c.in-len3.len_at_least c.in-len3.len_below c.single-item.is c.out-item-then-words-lt4.is c.address-item-then-words-lt4.is in
    let single = c.deref-in-len3.ensures in
    let out = c.deref-in-len3-2.ensures in
    let address = c.deref-in-len3-3.ensures in
    let bytes : c.deref-in-len3.result.now ∷ c.deref-in-len3-2.result.now ∷ c.deref-in-len3-3.result.now ∷ [] ≡ string_bytes c.single-item.result ∷ string_bytes c.out-item-then-words-lt4.result ∷ string_bytes c.address-item-then-words-lt4.result ∷ [] = cc in
    let read = c.read_single.ensures (c.deref-in-len3-2.result.now ∷ c.deref-in-len3-3.result.now ∷ []) c.read_place-in-len3.ensures in
    subst (λ (ws : List (List ℕ)). AreRead ws c.read_single.result) (bytes ∙ sym (ap bytes_of words)) (single-read (c.deref-in-len3.result.now ∷ c.deref-in-len3-2.result.now ∷ c.deref-in-len3-3.result.now ∷ []) c.read_single.result (λ same. omega (arith, same)) (λ same. omega (arith, same)) read)

pub returns-in-len5 : goal.returns-in-len5
returns-in-len5 c =
    let words = five-items c.args.words.now c.single-item-then-words-lt6.result c.option-item-then-words-lt6.result c.count-item-then-words-lt6.result c.out-item-then-words-lt6.result c.address-item-then-words-lt6.result c.in-len5.len_at_least c.in-len5.len_below c.single-item-then-words-lt6.is c.option-item-then-words-lt6.is c.count-item-then-words-lt6.is c.out-item-then-words-lt6.is c.address-item-then-words-lt6.is in
    let single = c.deref-in-len5.ensures in
    let option = c.deref-in-len5-2.ensures in
    let count = c.deref-in-len5-3.ensures in
    let out = c.deref-in-len5-4.ensures in
    let address = c.deref-in-len5-5.ensures in
    let bytes : c.deref-in-len5.result.now ∷ c.deref-in-len5-2.result.now ∷ c.deref-in-len5-3.result.now ∷ c.deref-in-len5-4.result.now ∷ c.deref-in-len5-5.result.now ∷ [] ≡ string_bytes c.single-item-then-words-lt6.result ∷ string_bytes c.option-item-then-words-lt6.result ∷ string_bytes c.count-item-then-words-lt6.result ∷ string_bytes c.out-item-then-words-lt6.result ∷ string_bytes c.address-item-then-words-lt6.result ∷ [] = cc in
    let read = c.read_single-in-len5.ensures (c.deref-in-len5-2.result.now ∷ c.deref-in-len5-3.result.now ∷ c.deref-in-len5-4.result.now ∷ c.deref-in-len5-5.result.now ∷ []) c.read_limited-in-len5.ensures in
    subst (λ (ws : List (List ℕ)). AreRead ws c.read_single-in-len5.result) (bytes ∙ sym (ap bytes_of words)) (single-read (c.deref-in-len5.result.now ∷ c.deref-in-len5-2.result.now ∷ c.deref-in-len5-3.result.now ∷ c.deref-in-len5-4.result.now ∷ c.deref-in-len5-5.result.now ∷ []) c.read_single-in-len5.result (λ same. omega (arith, same)) (λ same. omega (arith, same)) read)
