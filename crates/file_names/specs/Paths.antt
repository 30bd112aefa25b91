-- Paths, as bytes: `/`, or some names with a slash before each.
use Rattle.std.specs.Prelude.{ℕ, ◌==◌, nat_le, ◌&&◌, ◌||◌, not, Bool, true, false, if◌then◌else◌, List, [], ◌∷◌, ◌++◌, length, codes}
use Rattle.std.specs.Char.{is_ascii_alphanumeric}
use Rattle.std.specs.List.{list_all, slice_split, suffix_len, before_last, after_last}
use Rattle.std.specs.Str.{bytes_eq}

abbrev pub is_slash : ℕ → Bool
is_slash byte = byte == 47

-- a letter, a digit, `.`, `_` or `-`
abbrev pub is_name_byte : ℕ → Bool
is_name_byte byte = is_ascii_alphanumeric byte || byte == 46 || byte == 95 || byte == 45

-- 1 to 255 such bytes, and neither `.` nor `..`
abbrev pub is_name : List ℕ → Bool
is_name name = nat_le 1 (length name) && nat_le (length name) 255 && not (bytes_eq name (codes ".")) && not (bytes_eq name (codes "..")) && list_all is_name_byte name

-- 1 to 16 names, with a slash between two of them
abbrev pub are_names : List ℕ → Bool
are_names text = nat_le (length (slice_split is_slash text)) 16 && list_all is_name (slice_split is_slash text)

-- `/`, or 1 to 16 names with a slash before each
abbrev pub is_path : List ℕ → Bool
is_path [] = false
is_path (first ∷ []) = is_slash first
is_path (first ∷ second ∷ rest) = is_slash first && are_names (second ∷ rest)

-- one byte alone, as of paths only `/` is
abbrev pub is_root : List ℕ → Bool
is_root [] = false
is_root (first ∷ []) = true
is_root (first ∷ second ∷ rest) = false

abbrev pub behind_slash : List ℕ → ℕ
behind_slash text = suffix_len (λ byte. not (is_slash byte)) text

-- what stands behind the last slash
abbrev pub name_of : List ℕ → List ℕ
name_of path = after_last is_slash path

abbrev pub or_root : List ℕ → List ℕ
or_root [] = codes "/"
or_root (first ∷ rest) = first ∷ rest

-- what stands before the last slash, and `/` where nothing does
abbrev pub parent_of : List ℕ → List ℕ
parent_of path = or_root (before_last is_slash path)

-- the path of a name in a folder
abbrev pub child_of : List ℕ → List ℕ → List ℕ
child_of folder name = (if is_root folder then codes "/" else folder ++ codes "/") ++ name
