mod Lists
mod Numbers
mod Reading
