-- How a vector is printed component by component: each with the slash that is before it.
use Rattle.std.specs.Prelude.{ℕ, List, [], ◌∷◌, flat_map, unwrap_or, Option, option_map, ◌++◌}
use Rattle.std.specs.List.{fold}
use Rattle.cvss_base.specs.Text.{slash}
use Rattle.cvss_base.specs.Version.{Version, component_of}

-- a component after a slash
abbrev pub with_slash : Option (List ℕ) → Option (List ℕ)
with_slash component = option_map (λ text. slash ∷ text) component

-- the component that a vector has for a metric, with a slash before it, or nothing
abbrev pub text_with_slash : {V K : Type 0} → Version V K → V → K → List ℕ
text_with_slash version v kind = unwrap_or (with_slash (component_of version v kind)) []

-- the components that a vector has for these metrics, each with a slash before it
abbrev pub texts_with_slash : {V K : Type 0} → Version V K → V → List K → List ℕ
texts_with_slash version v kinds = flat_map (text_with_slash version v) kinds

-- a text with these components appended one after another, each with a slash before it
abbrev pub with_texts : {V K : Type 0} → Version V K → V → List ℕ → List K → List ℕ
with_texts version v text kinds = fold (λ begun kind. begun ++ text_with_slash version v kind) text kinds
