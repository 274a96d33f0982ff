-- What a version's laws say of its names and of its printing order.
use Rattle.std.proofs.Common.{◌≡◌, ◌≢◌, ℕ, suc, ◌+◌, ◌-◌, ◌<◌, true, false, List, ◌∷◌, ◌++◌, length, get_or, take, drop, map, find, Some, None, sym, ap, ◌∙◌, arith, option_map, bytes_eq, drop-cons}
use Rattle.std.specs.List.{slice_get, position_or_len, range_with_len, All}
use Rattle.std.proofs.lemmas.List.{take-append-drop, drop_more, get_or-take, get_or-drop, get_or-map, get_or_past, length-take-le, length-drop, take_all}
use Rattle.std.proofs.lemmas.List.FromFn.{get_or-range_with_len, fill_by_all}
use Rattle.std.proofs.lemmas.Option.{slice_get-map, slice_get_within, get_or_from_slice_get, same_Some}
use Rattle.std.proofs.lemmas.Slice.Eq.{bytes_eq-Decides}
use Rattle.cvss_base.specs.Text.{colon, component, name_part, value_part}
use Rattle.cvss_base.specs.Version.{Version, read}
use Rattle.cvss_base.specs.private.Component.{delimiter_bytes}
use Rattle.cvss_text.specs.private.Walk.{VersionLaws, IsCut, place_of}
use Rattle.cvss_base.proofs.FindLemmas.{found_passes, not_found}
use Rattle.cvss_text.proofs.TextLemmas.{read-component, delimiter_bytes-read, name_part-component, value_part-component}

-- the printing order, cut at one metric, which is nowhere else
pub record IsCutAt {K : Type 0} (printed : List K) (kind : K) : Type 0 where
  pub before : List K
  pub after : List K
  pub is : printed ≡ before ++ kind ∷ after
  pub not_before : All (λ other. other ≢ kind) before
  pub not_after : All (λ other. other ≢ kind) after

module _ {V K : Type 0} (version : Version V K) (version_laws : VersionLaws version) where
  -- what holds of each printed metric holds of each metric
  pub at_each : {Y : Type 0} (f g : K → Y) → map f version.printed ≡ map g version.printed → (kind : K) → f kind ≡ g kind
  at_each {Y} f g same kind =
      let at : (h : K → Y) → slice_get (map h version.printed) (place_of version kind) ≡ Some (h kind) = λ h. slice_get-map h version.printed (place_of version kind) ∙ ap (option_map h) (version_laws.placed kind) in
      same_Some (f kind) (g kind) (sym (at f) ∙ (ap (λ list. slice_get list (place_of version kind)) same ∙ at g))

  pub name_read : (kind : K) → read version (version.name kind) ≡ version.name kind
  name_read = at_each (λ kind. read version (version.name kind)) version.name version_laws.names_read

  pub name_plain : (kind : K) → delimiter_bytes (version.name kind) ≡ 0
  name_plain = at_each (λ kind. delimiter_bytes (version.name kind)) (λ _. 0) version_laws.names_plain

  pub names_differ : (kind other : K) → version.name kind ≡ version.name other → kind ≡ other
  names_differ kind other same =
      let one_place : place_of version kind ≡ place_of version other = ap (λ text. position_or_len (λ each. bytes_eq (version.name each) text) version.printed) same in
      same_Some kind other (sym (version_laws.placed kind) ∙ (ap (slice_get version.printed) one_place ∙ version_laws.placed other))

  -- the component with a metric's name, as it is read
  pub component_read : (kind : K) (text : List ℕ) → read version (component (version.name kind) text) ≡ component (version.name kind) (read version text)
  component_read kind text =
      read-component version.any_case (version.name kind) text ∙ rw (name_read kind)

  pub only_place : (kind : K) (place : ℕ) (d : K) → place < length version.printed → get_or version.printed place d ≡ kind → place ≡ place_of version kind
  only_place kind place d within is =
      let reported : place_of version (get_or version.printed place d) ≡ 0 + place =
      sym (get_or-map (place_of version) version.printed place d 0 within) ∙ (ap (λ list. get_or list place 0) version_laws.in_order ∙ get_or-range_with_len 0 (length version.printed) place 0 within) in
      omega (arith, reported, ap (place_of version) is)

  pub printed_once : (kind : K) → IsCutAt version.printed kind
  printed_once kind =
      let printed = version.printed in
      let place = place_of version kind in
      let within : place < length printed = slice_get_within printed place kind (version_laws.placed kind) in
      record {
        before = take place printed;
        after = drop (place + 1) printed;
        is = sym (take-append-drop place printed) ∙ ap (λ rest. take place printed ++ rest) (drop_more printed place kind within ∙ ap (λ here. here ∷ drop (place + 1) printed) (get_or_from_slice_get printed place kind kind (version_laws.placed kind)));
        not_before = λ k d inside is. omega (arith, length-take-le place printed (omega arith), only_place kind k d (omega (arith, length-take-le place printed (omega arith))) (sym (get_or-take place printed k d (omega (arith, length-take-le place printed (omega arith)))) ∙ is));
        not_after = λ k d inside is. omega (arith, only_place kind (place + 1 + k) d (omega (arith, length-drop (place + 1) printed)) (sym (get_or-drop (place + 1) printed k d) ∙ is));
      }

  -- the metric that is found by a name has it, and where none is found none has it
  pub named_known : (name : List ℕ) (kind : K) → Some kind ≡ find (λ each. bytes_eq name (version.name each)) version.printed → version.name kind ≡ name
  named_known name kind found = sym ((bytes_eq-Decides name (version.name kind)).0 (found_passes (λ each. bytes_eq name (version.name each)) version.printed kind (sym found)))

  pub named_unknown : (name : List ℕ) → None ≡ find (λ each. bytes_eq name (version.name each)) version.printed → (kind : K) → version.name kind ≢ name
  named_unknown name none kind named =
      let place = place_of version kind in
      let fails = not_found (λ each. bytes_eq name (version.name each)) version.printed place kind (sym none) (slice_get_within version.printed place kind (version_laws.placed kind)) in
      let here = get_or_from_slice_get version.printed place kind kind (version_laws.placed kind) in
      let passes : bytes_eq name (version.name kind) ≡ true = (bytes_eq-Decides name (version.name kind)).1 (sym named) in
      let no : true ≡ false = sym passes ∙ (ap (λ each. bytes_eq name (version.name each)) (sym here) ∙ fails) in cc

  -- a piece that begins with a metric's name and a colon is cut there
  pub IsCut_named : (piece name value : List ℕ) (kind : K) → piece ≡ component name value → version.name kind ≡ read version name → IsCut version piece kind value
  IsCut_named piece name value kind is named =
      let plain : delimiter_bytes name ≡ 0 = sym (delimiter_bytes-read version.any_case name) ∙ (ap delimiter_bytes (sym named) ∙ name_plain kind) in
      let is_name : name_part piece ≡ name = ap name_part is ∙ name_part-component name value plain in
      record {
        named = named ∙ ap (read version) (sym is_name);
        value_is = sym (ap value_part is ∙ value_part-component name value plain);
        cut = is ∙ ap (λ each. component each value) (sym is_name);
      }

  -- a piece is cut at a colon after so many bytes, which are a metric's name
  pub IsCut_at : (piece : List ℕ) (n : ℕ) (kind : K) → get_or piece n 0 ≡ 58 → version.name kind ≡ read version (map (λ k. get_or piece k 0) (range_with_len 0 n))
      → IsCut version piece kind (take (length piece - suc n) (drop (suc n) piece))
  IsCut_at piece n kind colon named =
      let within : n < length piece = grind (arith, get_or_past piece n 0) in
      let rest = drop (suc n) piece in
      let name_is : take n piece ≡ map (λ k. get_or piece k 0) (range_with_len 0 n) =
      fill_by_all (λ k. get_or piece k 0) (take n piece) n 0 (length-take-le n piece (omega arith)) (λ k inside. get_or-take n piece k 0 inside) in
      let value_is : take (length piece - suc n) rest ≡ rest = take_all (length piece - suc n) rest (omega (arith, length-drop (suc n) piece)) in
      let is_cut : piece ≡ take n piece ++ (58 ∷ take (length piece - suc n) rest) =
      sym (take-append-drop n piece) ∙ ap (λ l. take n piece ++ l) (drop-cons piece n 0 within ∙ (λ at. colon at ∷ sym value_is at)) in
      IsCut_named piece (take n piece) (take (length piece - suc n) rest) kind is_cut (named ∙ ap (read version) (sym name_is))
