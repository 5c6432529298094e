-- The bytes of a name are UTF-8.
use Rattle.std.proofs.Common.{◌≡◌, ◌<◌, ℕ, true, nat_le, ◌&&◌, List, [], ◌∷◌, length, arith}
use Rattle.std.specs.List.{list_all}
use Rattle.std.specs.Str.{IsAscii, IsUtf8}
use Rattle.std.proofs.lemmas.Bool.{and_parts}
use Rattle.std.proofs.lemmas.Bool.Decides.{nat_tests}
use Rattle.std.proofs.lemmas.Str.{IsUtf8-from_ascii}
use Rattle.std.proofs.lemmas.Str.Ascii.{IsAscii-nil, IsAscii-cons}
use Rattle.plan_read.specs.task_names.Names.{is_name_byte, is_name}

name_byte_low : (b : ℕ) → is_name_byte b ≡ true → b < 128
name_byte_low b is = grind (arith, nat_tests)

name_bytes_ascii : (bs : List ℕ) → list_all is_name_byte bs ≡ true → IsAscii bs
name_bytes_ascii [] all = IsAscii-nil
name_bytes_ascii (b ∷ bs) all =
    let both = and_parts (is_name_byte b) (list_all is_name_byte bs) all in
    IsAscii-cons b bs (name_byte_low b both.0) (name_bytes_ascii bs both.1)

-- a name is a text
pub name_utf8 : (name : List ℕ) → is_name name ≡ true → IsUtf8 name
name_utf8 name is =
    let bytes = and_parts (nat_le 1 (length name) && nat_le (length name) 32) (list_all is_name_byte name) is in
    IsUtf8-from_ascii name (name_bytes_ascii name bytes.1)
