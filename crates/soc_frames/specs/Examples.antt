-- Worked examples.
use Rattle.std.specs.Prelude.{◌≡◌, codes, refl}
use Rattle.soc_frames.specs.Cpp.{cpp_text, trimmed}
use Rattle.soc_frames.specs.Collapse.{collapsed}
use Rattle.soc_frames.specs.Rust.{rust_text}

method_with_templates : cpp_text (codes "static void nsDocShell::Load<Foo, Bar<int> >(nsIURI*, int) const") ≡ codes "nsDocShell::Load<T>"
method_with_templates = refl

unclosed_group : cpp_text (codes "Foo<bar") ≡ codes "Foo<T>"
unclosed_group = refl

arrow_closes_nothing : collapsed (codes "f<a->b>c") ≡ codes "f<T>c"
arrow_closes_nothing = refl

operator_opens_nothing : cpp_text (codes "A::operator<(A const&)") ≡ codes "A::operator<"
operator_opens_nothing = refl

no_operator : collapsed (codes "my_operator<a>") ≡ codes "my_operator<T>"
no_operator = refl

anonymous_stays : cpp_text (codes "void (anonymous namespace)::f(int)") ≡ codes "(anonymous namespace)::f"
anonymous_stays = refl

comma_at_the_end : cpp_text (codes "A::operator,(B)") ≡ codes "A::operator, "
comma_at_the_end = refl

nothing_left : cpp_text (codes "(f)") ≡ codes "(f)"
nothing_left = refl

ends_go : trimmed (codes "f() const &&  ") ≡ codes "f()"
ends_go = refl

rust_hash : rust_text (codes "core::ptr::drop<T>::h0123456789abcdef") ≡ codes "core::ptr::drop<T>"
rust_hash = refl

rust_trait : rust_text (codes "<a::B<C> as d::E>::f<g::H>") ≡ codes "<a::B<C> as d::E>::f<T>"
rust_trait = refl
