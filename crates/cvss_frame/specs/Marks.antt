-- What is seen of an input that may begin with a byte-order mark: the Unicode Standard, section 23.8, "Byte Order Mark".
use Rattle.std.specs.Prelude.{ℕ, ◌==◌, ◌&&◌, ◌||◌, Bool, false, List, [], ◌∷◌, codes, drop, Option, Some, None, if◌then◌else◌}
use Rattle.std.specs.Option.{option_map}
use Rattle.cvss_frame.specs.declared.watching.Start.{Start}
use Rattle.cvss_frame.specs.declared.watching.Start.TheVariants.{Unread, One, Two, Begun, Utf16}
use Rattle.cvss_frame.specs.declared.watching.WatchedReader.{WatchedReader}

-- the bytes begin with the mark of UTF-16, in either order of its bytes
abbrev pub begins_utf16 : List ℕ → Bool
begins_utf16 [] = false
begins_utf16 (a ∷ []) = false
begins_utf16 (a ∷ b ∷ bytes) = ((a == 0xfe) && (b == 0xff)) || ((a == 0xff) && (b == 0xfe))

-- the bytes begin with the mark of UTF-8
abbrev pub begins_utf8 : List ℕ → Bool
begins_utf8 [] = false
begins_utf8 (a ∷ []) = false
begins_utf8 (a ∷ b ∷ []) = false
begins_utf8 (a ∷ b ∷ c ∷ bytes) = (a == 0xef) && ((b == 0xbb) && (c == 0xbf))

abbrev pub without_mark : List ℕ → List ℕ
without_mark bytes = if begins_utf8 bytes then drop 3 bytes else bytes

-- what a task sees of an input: its bytes without a mark, and nothing of UTF-16, which cannot be read
abbrev pub seen : List ℕ → List ℕ
seen bytes = if begins_utf16 bytes then [] else without_mark bytes

-- the first bytes that are read and not given
abbrev pub held : Start → List ℕ
held Unread = []
held (One a) = a ∷ []
held (Two a b) = a ∷ b ∷ []
held Begun = []
held Utf16 = []

-- what is seen of a reader from here on, by how its input began and by what it still has
abbrev pub unread_at : Start → Option (List ℕ) → Option (List ℕ)
unread_at Unread left = option_map (λ bytes. seen bytes) left
unread_at (One a) left = option_map (λ bytes. seen (a ∷ bytes)) left
unread_at (Two a b) left = option_map (λ bytes. seen (a ∷ b ∷ bytes)) left
unread_at Begun left = left
unread_at Utf16 left = option_map (λ bytes. []) left

abbrev pub unread : {R : Type 0} → (R → Option (List ℕ)) → WatchedReader R → Option (List ℕ)
unread remaining watched = unread_at watched.start (remaining watched.reader)

-- the words for the error by which an input cannot be read, where its start says them
abbrev pub start_error : Start → Option (List ℕ)
start_error Unread = None
start_error (One a) = None
start_error (Two a b) = None
start_error Begun = None
start_error Utf16 = Some (codes "UTF-16; convert it to UTF-8")
