mod Growing
mod Reading
