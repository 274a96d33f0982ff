-- The text of a vector's components, joined by slashes.
use Rattle.std.proofs.Common.{◌≡◌, ℕ, List, [], ◌∷◌, ◌++◌, drop, Option, Some, None, unwrap_or, refl, sym, ap, ◌∙◌, append_assoc, append-nil, filter_map}
use Rattle.std.specs.List.{cons_option}
use Rattle.cvss_base.specs.Text.{joined, slash}
use Rattle.cvss_base.specs.Version.{Version, component_of}
use Rattle.cvss_text.specs.private.Printing.{with_slash, text_with_slash, texts_with_slash, with_texts}

-- a first piece and the components of some metrics, joined: the piece, and each component after a slash
joined-cons_option : (first : List ℕ) (part : Option (List ℕ)) (parts : List (List ℕ)) → joined (first ∷ cons_option part parts) ≡ joined ((first ++ unwrap_or (with_slash part) []) ∷ parts)
joined-cons_option first None parts = ap (λ text. joined (text ∷ parts)) (sym (append-nil first))
joined-cons_option first (Some part) [] = refl
joined-cons_option first (Some part) (next ∷ parts) = sym (append_assoc first (slash ∷ part) (slash ∷ joined (next ∷ parts)))

module _ {V K : Type 0} (version : Version V K) (v : V) where
  -- components that are appended one after another
  pub texts-appended : (text : List ℕ) (kinds : List K) → with_texts version v text kinds ≡ text ++ texts_with_slash version v kinds
  texts-appended text [] = sym (append-nil text)
  texts-appended text (kind ∷ kinds) =
      texts-appended (text ++ text_with_slash version v kind) kinds ∙ append_assoc text (text_with_slash version v kind) (texts_with_slash version v kinds)

  pub joined-with_slash : (first : List ℕ) (kinds : List K) → joined (first ∷ filter_map (component_of version v) kinds) ≡ first ++ texts_with_slash version v kinds
  joined-with_slash first [] = sym (append-nil first)
  joined-with_slash first (kind ∷ kinds) =
      joined-cons_option first (component_of version v kind) (filter_map (component_of version v) kinds)
      ∙ joined-with_slash (first ++ text_with_slash version v kind) kinds
      ∙ append_assoc first (text_with_slash version v kind) (texts_with_slash version v kinds)

  -- all components after slashes, without the first slash
  pub joined_after_first : (kinds : List K) → drop 1 (texts_with_slash version v kinds) ≡ joined (filter_map (component_of version v) kinds)
  joined_after_first [] = refl
  joined_after_first (kind ∷ kinds) =
      elim (component_of version v kind) as (λ part. drop 1 (unwrap_or (with_slash part) [] ++ texts_with_slash version v kinds) ≡ joined (cons_option part (filter_map (component_of version v) kinds))) [
        | None ↦ joined_after_first kinds
        | Some piece ↦ sym (joined-with_slash piece kinds)
      ]

pub ruleset joins = (joined-with_slash, tt)
