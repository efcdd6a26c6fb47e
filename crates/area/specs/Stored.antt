-- R8.3: an area into which a table is stored: the table's numbers in the used places, and every other octet as it was.
-- Assumes nothing.
use Rattle.std.specs.Prelude.{ℕ, ◌-◌, ◌*◌, ◌/◌, ◌%◌, List, ◌++◌, cond, length, drop, ltb, eqb}
use Rattle.words.specs.Words.{word_at, octets_by}
use Rattle.transfer.specs.Transfers.{Transfer}
use Rattle.area.specs.Layout.{transfer_places, run_places, head_words, stamp_words, heads_at, starts_at, stamps_at, area_words, area_octets}
use Rattle.area.specs.Places.{nth, field, run_number, stamp_code, half_of}

-- the number at a place, or the old one where t doesn't use the place
unfoldable pub head_or : List Transfer → ℕ → ℕ → ℕ → ℕ
head_or t i f old = cond (ltb i (length t)) (field (nth t i) f) old

unfoldable pub run_or : List Transfer → ℕ → ℕ → ℕ → ℕ → ℕ
run_or t side i j old = cond (ltb j (length (nth t i).runs)) (run_number t side i j) old

-- the halves of a timestamp are used only where one is kept
unfoldable pub half_or : List Transfer → ℕ → ℕ → ℕ → ℕ
half_or t i h old = cond (eqb (stamp_code (nth t i).stamp) 1) (half_of (nth t i).stamp h) old

-- the same by the number of the word
unfoldable pub word_or : List Transfer → ℕ → ℕ → ℕ
word_or t k old =
    let h = k - heads_at in
    let r = k - starts_at in
    let s = k - stamps_at in
    let row = transfer_places * run_places in
    cond (eqb k 0) (length t)
    (cond (ltb k starts_at) (head_or t (h / head_words) (h % head_words) old)
    (cond (ltb k stamps_at) (run_or t (r / row) (r % row / run_places) (r % row % run_places) old) (half_or t (s / stamp_words) (s % stamp_words) old)))

unfoldable pub stored_in : List ℕ → List Transfer → List ℕ
stored_in a t = octets_by (λ k. word_or t k (word_at a k)) 0 area_words ++ drop area_octets a

-- R8.4: a fresh table is stored whole, every number of the layout 0
unfoldable pub fresh_in : List ℕ → List ℕ
fresh_in a = octets_by (λ k. 0) 0 area_words ++ drop area_octets a
