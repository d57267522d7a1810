-- Steps of writing, part by part.
use Rattle.std.proofs.Common.{◌≡◌, ℕ, suc, ◌+◌, ◌-◌, ◌<◌, ◌≤◌, Bool, true, false, cond, List, [], ◌∷◌, ◌++◌, length, get_or, take, drop, sym, refl, ap, ◌∙◌, subst, ap₂, arith}
use Rattle.std.proofs.lemmas.List.{drop_more, at_drop_more}
use Rattle.rules.specs.declared.hunk.Span.{Span}
use Rattle.rules.specs.declared.hunk.Hunk.{Hunk}
use Rattle.rules.specs.Hunks.{Sheets, hunk_lines, side_lines, sheet_of}
use Rattle.rules.specs.Contraction.{read_range}
use Rattle.rules.specs.Lines.{Line, between}
use Rattle.rules.specs.Pieces.{Kind, Chunk, total, made}
use Rattle.rules.specs.Steps.{Step, put, close, each, left_open, pieces_of}
use Rattle.reading.specs.Reading.{no_hunk}
use Rattle.reading.proofs.Reading.{lines_are}
use Rattle.sink.specs.declared.piece.Kind as code
use Rattle.sink.specs.declared.piece.Piece.{Piece}
use Rattle.sink.specs.declared.sink.Sink.{Ghosts}
use Rattle.sink.specs.Pieces.{chunk, chunk_of, kind_of}
use Rattle.sink.proofs.Folds.{made_++}
use Rattle.writing.specs.declared.pen.Pen.{Pen}
use Rattle.writing.specs.States.{open_end, State, state, after, Keeps, stands, HasRoom, Wrote}

abbrev pub piece : Kind → Line → Chunk
piece k x = record { kind = k; bytes = x }

pieces_close : (o : Bool) (c : Chunk) (ps qs rs : List Chunk) → ps ≡ qs ++ rs → cond o (c ∷ ps) ps ≡ cond o (c ∷ qs) qs ++ rs
pieces_close true c ps qs rs e = ap (λ (v : List Chunk). c ∷ v) e
pieces_close false c ps qs rs e = e

pieces_append : (o : Bool) (xs ys : List Step) → pieces_of o (xs ++ ys) ≡ pieces_of o xs ++ pieces_of (open_end o xs) ys
pieces_append o [] ys = refl
pieces_append o (put c ∷ xs) ys = ap (λ (v : List Chunk). c ∷ v) (pieces_append (left_open o c.bytes) xs ys)
pieces_append o (close e ∷ xs) ys = pieces_close o _ (pieces_of false (xs ++ ys)) (pieces_of false xs) (pieces_of (open_end false xs) ys) (pieces_append false xs ys)

open_append : (o : Bool) (xs ys : List Step) → open_end o (xs ++ ys) ≡ open_end (open_end o xs) ys
open_append o [] ys = refl
open_append o (put c ∷ xs) ys = open_append (left_open o c.bytes) xs ys
open_append o (close e ∷ xs) ys = open_append false xs ys

total_append : (ps qs : List Chunk) → total (ps ++ qs) ≡ total ps + total qs
total_append [] qs = omega arith
total_append (c ∷ ps) qs = let i = total_append ps qs in omega arith

pub same_state : {V : Type 0} (v v' : V) (t t' a : ℕ) (o o' : Bool) → v ≡ v' → t ≡ t' → o ≡ o' → state v t a o ≡ state v' t' a o'
same_state v v' t t' a o o' p q r = cc

module _ {V : Type 0} (rule : V → Chunk → V) where
  pub after_append : (s : State V) (xs ys : List Step) → after rule (after rule s xs) ys ≡ after rule s (xs ++ ys)
  after_append s xs ys =
      let e = pieces_append s.ajar xs ys in
      let ps = pieces_of s.ajar xs in
      let qs = pieces_of (open_end s.ajar xs) ys in
      let t : (s.taken + total ps) + total qs ≡ s.taken + total (pieces_of s.ajar (xs ++ ys)) = (let u = ap total e ∙ total_append ps qs in omega arith) in
      same_state _ _ _ _ _ _ _
      (sym (ap (λ (v : List Chunk). made rule s.value v) e ∙ made_++ rule s.value ps qs))
      t
      (sym (open_append s.ajar xs ys))

-- A writing that goes on keeps what both parts keep.
pub keeps_on : {S : Type 0} {g : Ghosts S} {a b c : S} → Keeps g a b → Keeps g b c → Keeps g a c
keeps_on p q = record {
  forward = let a = p.forward in let b = q.forward in omega arith;
  alone = record {
    fresh = q.alone.fresh ∙ p.alone.fresh;
    capacity = q.alone.capacity ∙ p.alone.capacity;
    rest = λ k h. q.alone.rest k h ∙ p.alone.rest k (let b = q.forward in omega arith);
  };
}

-- Steps in two parts; a record, so that the parts are inferred.
pub record Parts (ss xs ys : List Step) : Type 0 where
  pub is : ss ≡ xs ++ ys

-- One writing after another.
module _ {S : Type 0} {g : Ghosts S} where
  pub wrote_on : {p p' p'' : Pen S} {xs ys : List Step} → Wrote g p p' xs → Wrote g p' p'' ys → Wrote g p p'' (xs ++ ys)
  wrote_on {p} {p'} {p''} {xs} {ys} a b = record {
    written = b.written ∙ (ap (λ (s : State g.Value). after g.rule s ys) a.written ∙ after_append g.rule (stands g p) xs ys);
    kept = keeps_on a.kept b.kept;
    same_sink = b.same_sink ∙ a.same_sink;
  }

  -- Where steps have room, so have the first of them, and then the rest.
  pub room_first : {p : Pen S} {xs : List Step} (ys : List Step) → HasRoom g p (xs ++ ys) → HasRoom g p xs
  room_first {p} {xs} ys h = record {
    room =
        let r = h.room in
        let u = ap total (pieces_append p.ajar xs ys) ∙ total_append (pieces_of p.ajar xs) (pieces_of (open_end p.ajar xs) ys) in
        omega arith;
  }

  pub room_rest : {p p' : Pen S} {xs ys : List Step} → HasRoom g p (xs ++ ys) → Wrote g p p' xs → HasRoom g p' ys
  room_rest {p} {p'} {xs} {ys} h w = record {
    room =
        let r = h.room in
        let e : after g.rule (stands g p') ys ≡ after g.rule (stands g p) (xs ++ ys) = ap (λ (s : State g.Value). after g.rule s ys) w.written ∙ after_append g.rule (stands g p) xs ys in
        let t = ap (λ (s : State g.Value). s.taken) e in
        let a = ap (λ (s : State g.Value). s.announced) w.written in
        omega arith;
  }

-- A writing under way: what is left of the steps has room, and once it is written, all are.
pub record UnderWay {S : Type 0} (g : Ghosts S) (p : Pen S) (ss : List Step) (p' : Pen S) (rest : List Step) : Type 0 where
  pub room : HasRoom g p' rest
  pub whole : (p'' : Pen S) → Wrote g p' p'' rest → Wrote g p p'' ss

module _ {S : Type 0} {g : Ghosts S} where
  pub part_room : {p p' : Pen S} {ss rest xs ys : List Step} → UnderWay g p ss p' rest → Parts rest xs ys → HasRoom g p' xs
  part_room {p} {p'} {ss} {rest} {xs} {ys} u e = room_first ys (subst (HasRoom g p') e.is u.room)

  pub part_done : {p p' p'' : Pen S} {ss rest xs ys : List Step} → UnderWay g p ss p' rest → Parts rest xs ys → Wrote g p' p'' xs → UnderWay g p ss p'' ys
  part_done {p} {p'} {p''} {ss} {rest} {xs} {ys} u e w = record {
    room = room_rest (subst (HasRoom g p') e.is u.room) w;
    whole = λ q v. u.whole q (subst (Wrote g p' q) (sym e.is) (wrote_on w v));
  }

pub each_append : (k : Kind) (xs ys : List Line) → each k (xs ++ ys) ≡ each k xs ++ each k ys
each_append k [] ys = refl
each_append k (x ∷ xs) ys = ap (λ (v : List Step). put (piece k x) ∷ v) (each_append k xs ys)

pub between_more : (ls : List Line) (n to : ℕ) → n < to → to ≤ length ls → between ls n to ≡ get_or ls n [] ∷ between ls (n + 1) to
between_more ls n to lt le =
    let q : to - n ≡ suc (to - (n + 1)) = omega arith in
    ap₂ (λ (m : ℕ) (v : List Line). take m v) q (drop_more ls n [] (omega arith))

-- A line of a range is the first piece of what is left of it.
pub line_step : (k : code.Kind) (ls : List Line) (n to : ℕ) (p : Piece) (line : Line) → n < to → to ≤ length ls → chunk p ≡ chunk_of k line → line ≡ get_or ls n []
    → Parts (each (kind_of k) (between ls n to)) (put (chunk p) ∷ []) (each (kind_of k) (between ls (n + 1) to))
line_step k ls n to p line lt le e f = record {
  is =
      ap (each (kind_of k)) (between_more ls n to lt le) ∙ ap (λ (x : Chunk). put x ∷ each (kind_of k) (between ls (n + 1) to)) (sym (e ∙ ap (chunk_of k) f));
}

-- A hunk's lines come first of those of the hunks left.
pub hunk_step : (k : Kind) (s : Sheets) (hs : List Hunk) (i : ℕ) (r : Span) → i < length hs → r ≡ read_range (get_or hs i no_hunk).side (get_or hs i no_hunk)
    → Parts (each k (side_lines s (drop i hs))) (each k (between (sheet_of s (get_or hs i no_hunk).side) r.start r.end)) (each k (side_lines s (drop (i + 1) hs)))
hunk_step k s hs i r lt e =
    let h = get_or hs i no_hunk in
    let m : side_lines s (drop i hs) ≡ hunk_lines s h ++ side_lines s (drop (i + 1) hs) = at_drop_more (side_lines s) hs i no_hunk lt in
    let b : hunk_lines s h ≡ between (sheet_of s h.side) r.start r.end = lines_are h.side s h ∙ ap (λ (x : Span). between (sheet_of s h.side) x.start x.end) (sym e) in
    record { is = ap (each k) (m ∙ ap (λ (v : List Line). v ++ side_lines s (drop (i + 1) hs)) b) ∙ each_append k (between (sheet_of s h.side) r.start r.end) (side_lines s (drop (i + 1) hs)) }
