-- Expressions that are planned one after another.
use Rattle.std.proofs.Common.{◌≡◌, ℕ, ◌+◌, ◌<◌, List, ◌∷◌, ◌++◌, [], length, take, Result, Ok, Err, slice_index_or, refl, ◌∙◌, sym, ap, add-one}
use Rattle.std.proofs.lemmas.List.Sums.{fold-append}
use Rattle.std.proofs.Math.Seq.{take-suc}
use Rattle.px_value.proofs.Refusing.{refuses_too}
use Rattle.px_column.specs.Prelude.{Refuses}
use Rattle.px_column.specs.Result.{◌>>=◌}
use Rattle.px_value.specs.declared.error.PxError.{PxError}
use Rattle.px_value.specs.declared.error.PxError.TheVariants.{OutOfMemory}
use Rattle.px_arena.specs.Named.{NamedNode}
use Rattle.px_tree.specs.Tree.{Tree}
use Rattle.px_tree.specs.Typing.{Scope}
use Rattle.px_tree.specs.declared.context.Context.{Context}
use Rattle.px_answers.specs.Planned.{Planned}
use Rattle.px_expr.specs.Plan.{noted_at, all_noted, plan_at, plans_in, NotesFront}
use Rattle.px_conversion.specs.declared.conversion.ExpressionConversionState.{ExpressionConversionState}

-- some nodes before others, where none of those is refused
abbrev pub followed_by : List Planned → Result (List Planned) PxError → Result (List Planned) PxError
followed_by plans (Ok others) = Ok (plans ++ others)
followed_by plans (Err e) = Err e

-- some nodes and one more, where none is refused
abbrev pushed : Result (List Planned) PxError → Result Planned PxError → Result (List Planned) PxError
pushed (Ok plans) (Ok p) = Ok (plans ++ p ∷ [])
pushed (Ok plans) (Err e) = Err e
pushed (Err e) p = Err e

push_first : (a : Result Planned PxError) → (a >>= λ p. Ok (p ∷ [])) ≡ pushed (Ok []) a
push_first (Ok p) = refl
push_first (Err e) = refl

push_later : (a c : Result Planned PxError) (b : Result (List Planned) PxError) → (a >>= λ p. pushed b c >>= λ ps. Ok (p ∷ ps)) ≡ pushed (a >>= λ p. b >>= λ ps. Ok (p ∷ ps)) c
push_later (Ok p) (Ok x) (Ok ps) = refl
push_later (Ok p) (Ok x) (Err e) = refl
push_later (Ok p) (Err x) (Ok ps) = refl
push_later (Ok p) (Err x) (Err e) = refl
push_later (Err e) c b = refl

plans_push : (ts : List Tree) (scope : Scope) (place : Context) (es : List NamedNode) (e : NamedNode) → plans_in (es ++ e ∷ []) ts scope place ≡ pushed (plans_in es ts scope place) (plan_at ts scope place e)
plans_push ts scope place [] e = push_first (plan_at ts scope place e)
plans_push ts scope place (x ∷ es) e = rw (plans_push ts scope place es e) (push_later (plan_at ts scope place x) (plan_at ts scope place e) (plans_in es ts scope place))

plans_more : (ts : List Tree) (scope : Scope) (place : Context) (es : List NamedNode) (i : ℕ) (e : NamedNode) → i < length es → e ≡ slice_index_or es i e → plans_in (take (i + 1) es) ts scope place ≡ pushed (plans_in (take i es) ts scope place) (plan_at ts scope place e)
plans_more ts scope place es i e h at = rw (add-one, take-suc es i e h, ← at) (plans_push ts scope place (take i es) e)

-- one expression more is planned
pub plans_next : (ts : List Tree) (scope : Scope) (place : Context) (es : List NamedNode) (i : ℕ) (e : NamedNode) (ps : List Planned) (p : Planned) → i < length es → e ≡ slice_index_or es i e → plans_in (take i es) ts scope place ≡ Ok ps → plan_at ts scope place e ≡ Ok p → plans_in (take (i + 1) es) ts scope place ≡ Ok (ps ++ p ∷ [])
plans_next ts scope place es i e ps p h at before planned = plans_more ts scope place es i e h at ∙ rw (before, planned) refl

-- the next expression is refused
plans_refused : (ts : List Tree) (scope : Scope) (place : Context) (es : List NamedNode) (i : ℕ) (e : NamedNode) (ps : List Planned) → i < length es → e ≡ slice_index_or es i e → plans_in (take i es) ts scope place ≡ Ok ps → (error : PxError) → plan_at ts scope place e ≡ Err error → plans_in (take (i + 1) es) ts scope place ≡ Err error
plans_refused ts scope place es i e ps h at before error refused = plans_more ts scope place es i e h at ∙ rw (before, refused) refl

noted_more : (ts : List Tree) (s : ExpressionConversionState) (es : List NamedNode) (i : ℕ) (d : NamedNode) → i < length es → all_noted ts s (take (i + 1) es) ≡ noted_at ts (all_noted ts s (take i es)) (slice_index_or es i d)
noted_more ts s es i d h = rw (add-one, take-suc es i d h, fold-append (noted_at ts) s (take i es) (slice_index_or es i d ∷ [])) refl

-- one expression more is noted
pub noted_next : (ts : List Tree) (s : ExpressionConversionState) (es : List NamedNode) (i : ℕ) (e : NamedNode) (old new : ExpressionConversionState) → i < length es → e ≡ slice_index_or es i e → old ≡ all_noted ts s (take i es) → new ≡ noted_at ts old e → new ≡ all_noted ts s (take (i + 1) es)
noted_next ts s es i e old new h at before step = step ∙ (ap (λ x. noted_at ts x e) before ∙ (ap (noted_at ts (all_noted ts s (take i es))) at ∙ sym (noted_more ts s es i e h)))

-- what is noted where the next expression is refused
pub refused_front : (ts : List Tree) (scope : Scope) (place : Context) (s : ExpressionConversionState) (es : List NamedNode) (i : ℕ) (e : NamedNode) (ps : List Planned) (new : ExpressionConversionState) (error : PxError) → i < length es → e ≡ slice_index_or es i e → plans_in (take i es) ts scope place ≡ Ok ps → new ≡ all_noted ts s (take i es) → Refuses error (plan_at ts scope place e) → NotesFront error ts scope place s es new
refused_front ts scope place s es i e ps new error h at before noted refused = record {
  count = i;
  plans = ps;
  planned = before;
  refused = refuses_too error (plan_at ts scope place e) (plans_in (take (i + 1) es) ts scope place) (plans_refused ts scope place es i e ps h at before error) refused;
  noted = noted;
}

-- and where memory was wanting
pub front_in_memory : (ts : List Tree) (scope : Scope) (place : Context) (s : ExpressionConversionState) (es : List NamedNode) (i : ℕ) (ps : List Planned) (new : ExpressionConversionState) → plans_in (take i es) ts scope place ≡ Ok ps → new ≡ all_noted ts s (take i es) → NotesFront OutOfMemory ts scope place s es new
front_in_memory ts scope place s es i ps new planned noted = record { count = i; plans = ps; planned = planned; refused = tt; noted = noted }
