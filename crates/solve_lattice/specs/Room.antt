-- Sizes of the areas that the solver works on, as in src/room.rt.
use Rattle.std.specs.Prelude.{ℕ}

-- rows of a block
abbrev pub lanes : ℕ
lanes = 8

-- words of a block, of the tail of a hand, and of a slot
abbrev pub block_words : ℕ
block_words = 128

abbrev pub tail_words : ℕ
tail_words = 256

abbrev pub slot_words : ℕ
slot_words = 256

-- in a level: where the sizes of the blocks begin, those of the tails, and the inverses of the last words
abbrev pub sizes_from : ℕ
sizes_from = 2048

abbrev pub tail_sizes_from : ℕ
tail_sizes_from = 2056

abbrev pub inverses_from : ℕ
inverses_from = 2064

abbrev pub level_words : ℕ
level_words = 2072

-- words of a long block, of the input, of the output, and of 8 polynomials
abbrev pub product_words : ℕ
product_words = 1088

abbrev pub input_words : ℕ
input_words = 1152

abbrev pub output_words : ℕ
output_words = 2304

abbrev pub rows_words : ℕ
rows_words = 1024

-- bounds of what is added up in a word: places of the blocks of all slots; terms of a product; products of a combination of slots
abbrev pub slot_places : ℕ
slot_places = 1024

abbrev pub most_factors : ℕ
most_factors = 256

abbrev pub combination_products : ℕ
combination_products = 1088

-- the last lane, where row 0 stands: row i is in lane last_lane - i
abbrev pub last_lane : ℕ
last_lane = 7

-- degrees of a block, the greatest of them, degrees of a slot and of a long block
abbrev pub block_degrees : ℕ
block_degrees = 16

abbrev pub last_degree : ℕ
last_degree = 15

abbrev pub slot_degrees : ℕ
slot_degrees = 32

abbrev pub product_degrees : ℕ
product_degrees = 136

-- coefficients of a polynomial of a certificate, and of a tail on the way; its greatest degree
abbrev pub most_coefficients : ℕ
most_coefficients = 121

abbrev pub most_degree : ℕ
most_degree = 120

-- places that the slots and the hand have together, the most steps of an insertion
abbrev pub most_places : ℕ
most_places = 2112

-- products that a word has room for, beside a number below p
abbrev pub most_products : ℕ
most_products = 8190

-- products in a word of a coordinate
abbrev pub coordinate_products : ℕ
coordinate_products = 1344
